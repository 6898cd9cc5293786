use Rattle.std.proofs.Common.{◌≡◌, ℕ, ◌+◌, ◌<◌, List, [], ◌∷◌, ◌++◌, length, get_or, drop, map, sym, ap, ◌∙◌, append_assoc}
use Rattle.std.proofs.lemmas.List.{at_drop_more}
use Rattle.sb_script.proofs.making.names_of.Goals as goal

names_more : {W : Type 0} (of : W → List ℕ) (words : List W) (names : List (List ℕ)) (i : ℕ) (d : W) (name : List ℕ) (items : List (List ℕ)) →
    i < length words → items ≡ names ++ name ∷ [] → name ≡ of (get_or words i d) → names ++ map of (drop i words) ≡ map of words →
    items ++ map of (drop (i + 1) words) ≡ map of words
names_more of words names i d name items lt push same before =
    ap (λ (xs : List (List ℕ)). xs ++ map of (drop (i + 1) words)) push ∙ append_assoc names (name ∷ []) (map of (drop (i + 1) words))
    ∙ ap (λ (x : List ℕ). names ++ x ∷ map of (drop (i + 1) words)) same ∙ sym (at_drop_more (λ ws. names ++ map of ws) words i d lt) ∙ before

pub loop-word-preserved : goal.loop-word-preserved
loop-word-preserved c =
    names_more (λ word. word.now) c.args.words.now c.loop-word.names.items c.loop-word.word-index _ c.in_ok-name_of.field-0 c.push.new.self.items
    c.loop-word-test.true c.in_ok-push.ensures.items c.in_ok-name_of.ensures.name c.loop-word.invariant
