-- The lines of bodies, from the parts that they are put together of.
use Rattle.std.proofs.Common.{◌≡◌, ℕ, Bool, true, false, List, [], ◌∷◌, ◌++◌, map, sym, ap, ◌∙◌, append_assoc}
use Rattle.std.specs.Prelude.{codes}
use Rattle.json.specs.Print.{escape_byte}
use Rattle.serde_json.specs.Data.{boolean, string, array, object, Items, member, no_members}
use Rattle.serde_json.specs.Written.{compact_text, items_text}
use Rattle.sb_codec.specs.Records.{Rows}
use Rattle.sb_listing.specs.Json.{items_of, row_data, rows_data}
use Rattle.sb_http.specs.declared.backend.HeldOwner.{HeldOwner}
use Rattle.sb_http.specs.Texts.{line_of, page_data, marked_page_data, owner_data, owners_data}

-- an object ends after these items, and its line after it
closed : (items : List ℕ) → items ++ (125 ∷ 10 ∷ []) ≡ (items ++ (125 ∷ [])) ++ (10 ∷ [])
closed items = sym (append_assoc items (125 ∷ []) (10 ∷ []))

pub owners_whole : (owners : List HeldOwner)
    → codes "{\"owners\":[" ++ (items_text false (items_of (map owner_data owners)) ++ codes "}\n") ≡ line_of (owners_data owners)
unfolding owners_data escape_byte
owners_whole owners = ap (λ (rest : List ℕ). codes "{\"owners\":[" ++ rest) (closed (items_text false (items_of (map owner_data owners))))

-- how the line of a page begins
abbrev pub page_head : Bool → List ℕ
page_head more = codes "{\"more\":" ++ (compact_text (boolean more) ++ codes ",\"rows\":")

by_more : (more : Bool) (rows : Items)
    → page_head more ++ (compact_text (array rows) ++ codes "}\n")
    ≡ line_of (object (member (codes "more") (boolean more) (member (codes "rows") (array rows) no_members)))
unfolding escape_byte
by_more true rows = ap (λ (rest : List ℕ). codes "{\"more\":true,\"rows\":[" ++ rest) (closed (items_text false rows))
by_more false rows = ap (λ (rest : List ℕ). codes "{\"more\":false,\"rows\":[" ++ rest) (closed (items_text false rows))

pub page_whole : (page : Rows) → page_head page.more ++ (compact_text (rows_data page.rows) ++ codes "}\n") ≡ line_of (page_data page)
unfolding page_data
page_whole page = by_more page.more (items_of (map row_data page.rows))

-- the same if a mark comes after the items
closed_after : (items mark : List ℕ)
    → items ++ (codes ",\"seen\":" ++ (mark ++ (125 ∷ 10 ∷ []))) ≡ (items ++ (codes ",\"seen\":" ++ (mark ++ (125 ∷ [])))) ++ (10 ∷ [])
closed_after items mark =
    ap (λ (rest : List ℕ). items ++ (codes ",\"seen\":" ++ rest)) (closed mark) ∙ sym (append_assoc items (codes ",\"seen\":" ++ (mark ++ (125 ∷ []))) (10 ∷ []))

marked_by_more : (more : Bool) (rows : Items) (mark : List ℕ)
    → page_head more ++ (compact_text (array rows) ++ (codes ",\"seen\":" ++ (compact_text (string mark) ++ codes "}\n")))
    ≡ line_of (object (member (codes "more") (boolean more) (member (codes "rows") (array rows) (member (codes "seen") (string mark) no_members))))
unfolding escape_byte
marked_by_more true rows mark = ap (λ (rest : List ℕ). codes "{\"more\":true,\"rows\":[" ++ rest) (closed_after (items_text false rows) (compact_text (string mark)))
marked_by_more false rows mark = ap (λ (rest : List ℕ). codes "{\"more\":false,\"rows\":[" ++ rest) (closed_after (items_text false rows) (compact_text (string mark)))

pub marked_whole : (mark : List ℕ) (page : Rows)
    → page_head page.more ++ (compact_text (rows_data page.rows) ++ (codes ",\"seen\":" ++ (compact_text (string mark) ++ codes "}\n")))
    ≡ line_of (marked_page_data mark page)
unfolding marked_page_data
marked_whole mark page = marked_by_more page.more (items_of (map row_data page.rows)) mark

-- five parts, one after another
pub five : (a b c d e : List ℕ) → (((a ++ b) ++ c) ++ d) ++ e ≡ a ++ (b ++ (c ++ (d ++ e)))
five a b c d e = append_assoc ((a ++ b) ++ c) d e ∙ append_assoc (a ++ b) c (d ++ e) ∙ append_assoc a b (c ++ (d ++ e))
