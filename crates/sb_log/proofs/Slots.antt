-- The slot that cells hold, by the table of the kinds.
use Rattle.std.proofs.Common.{◌≡◌, ◌≢◌, ℕ, ◌<◌, ℤ, pos, true, false, true≢false, [], ◌∷◌, Option, Some, None, Result, Ok, Err, refl, sym, ap, ◌∙◌}
use Rattle.std.specs.Prelude.{◌==◌, option_map, unwrap_or}
use Rattle.sqlite_value.specs.declared.value.Value.{Value}
use Rattle.sqlite_value.specs.declared.value.Value.TheVariants.{Int}
use Rattle.sqlite_value.specs.Order.{Row, column}
use Rattle.sb_types.specs.declared.kind.Kind.{Kind}
use Rattle.sb_types.specs.declared.kind.Form.{Form}
use Rattle.sb_types.specs.declared.entry.Slot.{Slot}
use Rattle.sb_types.specs.declared.entry.Slot.TheVariants.{Set, Removed}
use Rattle.sb_types.specs.declared.fault.Fault.{Fault}
use Rattle.sb_types.specs.Limits.{is_slot}
use Rattle.sb_types.specs.Value as values
use Rattle.sb_types.specs.Kinds as kinds
use Rattle.sb_types.specs.Kinds.{Content, Word, Number, Truth, tag_of, kind_of, content_of, form_of, form_in, kind_of_tag, made_value, value_of}
use Rattle.sb_types.proofs.KindTable.{tag_again, tag_found, tag_missed, tag_below, tag_not_removed, form_again, made_again, value_again, value_parts}
use Rattle.sb_log.specs.Rows.{number_cell, text_cell, slot_cells, content_by_form, slot_by_kind, slot_by, number_of}

-- ---- back from cells

content_back : (content : Content) → content_by_form (form_in content) (number_cell content) (text_cell content) ≡ content
content_back (Word text) = refl
content_back (kinds.Text text) = refl
content_back (Number number) = refl
content_back (Truth true) = refl
content_back (Truth false) = refl

pub slot_back : (slot : Slot) → slot_by (number_of (column (slot_cells slot) 0)) (column (slot_cells slot) 1) (column (slot_cells slot) 2) ≡ slot
slot_back Removed = refl
slot_back (Set value) =
    let content = content_of value in
    let number = number_cell content in
    let text = text_cell content in
    ap (λ (kind : Option Kind). slot_by_kind kind number text) (tag_again (kind_of value))
    ∙ ap (λ (form : Form). unwrap_or (option_map Set (made_value (kind_of value) (content_by_form form number text))) Removed) (sym (form_again value))
    ∙ ap (λ (found : Content). unwrap_or (option_map Set (made_value (kind_of value) found)) Removed) (content_back content)
    ∙ ap (λ (made : Option values.Value). unwrap_or (option_map Set made) Removed) (made_again value)

-- ---- what was found in cells

three_cells : (a b c d e f : Value) → a ≡ b → c ≡ d → e ≡ f → a ∷ c ∷ e ∷ [] ≡ b ∷ d ∷ f ∷ []
three_cells a b c d e f p q r = λ i. p i ∷ q i ∷ r i ∷ []

abbrev pub IsSlotOf : Kind → Value → Value → Slot → Type 0
IsSlotOf kind number text slot = (slot_cells slot ≡ Int (pos (tag_of kind)) ∷ number ∷ text ∷ []) × (is_slot slot ≡ true)

pub value_found : (kind : Kind) (content : Content) (number text : Value) (value : values.Value) → number_cell content ≡ number → text_cell content ≡ text → value_of kind content ≡ Ok value → IsSlotOf kind number text (Set value)
value_found kind content number text value one two is =
    let parts = value_parts kind content value is in
    (three_cells _ _ _ _ _ _ (ap (λ (k : Kind). Int (pos (tag_of k))) parts.0.0) (ap number_cell parts.0.1 ∙ one) (ap text_cell parts.0.1 ∙ two), parts.1)

-- ---- what cells hold if they are a slot's

-- the value of the kind whose content has these cells
abbrev pub HasCells : Kind → Value → Value → values.Value → Type 0
HasCells kind number text value = (values.is_value value ≡ true) × (kind_of value ≡ kind) × (number_cell (content_of value) ≡ number) × (text_cell (content_of value) ≡ text)

some_kind : (a b : Kind) → ◌≡◌ {A = Option Kind} (Some a) (Some b) → a ≡ b
some_kind a b e = cc

kind_once : (a b : Kind) → tag_of a ≡ tag_of b → a ≡ b
kind_once a b e = some_kind a b (sym (tag_again a) ∙ ap kind_of_tag e ∙ tag_again b)

abbrev tag_in : Row → ℕ
tag_in row = number_of (column row 0)

there : (kind : Kind) (number text : Value) (slot : Slot) → is_slot slot ≡ true → slot_cells slot ≡ Int (pos (tag_of kind)) ∷ number ∷ text ∷ [] → (value : values.Value) × HasCells kind number text value
there kind number text Removed fits cells =
    let same : 0 ≡ tag_of kind = ap tag_in cells in
    absurd (true≢false (ap (λ (n : ℕ). n == 0) same ∙ tag_not_removed kind))
there kind number text (Set value) fits cells =
    (value, (fits, kind_once (kind_of value) kind (ap tag_in cells), ap (λ (row : Row). column row 1) cells, ap (λ (row : Row). column row 2) cells))

-- so these cells hold a content of the form
pub content_there : (kind : Kind) (number text : Value) (slot : Slot) → is_slot slot ≡ true → slot_cells slot ≡ Int (pos (tag_of kind)) ∷ number ∷ text ∷ []
    → ((content : Content) → form_in content ≡ form_of kind → number_cell content ≡ number → text_cell content ≢ text) → ⊥
content_there kind number text slot fits cells none =
    let v = there kind number text slot fits cells in
    none (content_of v.0) (form_again v.0 ∙ ap form_of v.1.1) v.1.2 v.1.3

content_once : (a b : Content) → form_in a ≡ form_in b → number_cell a ≡ number_cell b → text_cell a ≡ text_cell b → a ≡ b
content_once a b form number text = sym (content_back a) ∙ (λ i. content_by_form (form i) (number i) (text i)) ∙ content_back b

never : (value : values.Value) (fault : Fault) → ◌≡◌ {A = Result values.Value Fault} (Ok value) (Err fault) → ⊥
never value fault e = absurd cc

-- and a value of the kind
pub value_there : (kind : Kind) (content : Content) (number text : Value) (slot : Slot) (fault : Fault) → form_in content ≡ form_of kind → number_cell content ≡ number → text_cell content ≡ text
    → is_slot slot ≡ true → slot_cells slot ≡ Int (pos (tag_of kind)) ∷ number ∷ text ∷ [] → value_of kind content ≡ Err fault → ⊥
value_there kind content number text slot fault form one two fits cells is =
    let v = there kind number text slot fits cells in
    let same = content_once (content_of v.0) content (form_again v.0 ∙ ap form_of v.1.1 ∙ sym form) (v.1.2 ∙ sym one) (v.1.3 ∙ sym two) in
    never v.0 fault (sym (value_again v.0 v.1.0) ∙ (λ i. value_of (v.1.1 i) (same i)) ∙ is)

-- ---- the kind of a tag

pub kind_found : (tag : ℕ) (at : ℤ) (kind : Kind) → kind_of_tag tag ≡ Some kind → pos tag ≡ at → pos (tag_of kind) ≡ at
kind_found tag at kind is same = ap pos (tag_found tag kind is) ∙ same

pos_same : (a b : ℕ) → pos a ≡ pos b → a ≡ b
pos_same a b e = cc

pub kind_missed : (tag : ℕ) (at : ℤ) → kind_of_tag tag ≡ None → pos tag ≡ at → (kind : Kind) → pos (tag_of kind) ≢ at
kind_missed tag at none same kind is = tag_missed tag none kind (pos_same (tag_of kind) tag (is ∙ sym same))

pub kind_below : (kind : Kind) → tag_of kind < 256
kind_below = tag_below
