use Rattle.std.proofs.Common.{◌≡◌, ◌-◌, ◌++◌, ℕ, List, length, drop, sym, ap, ◌∙◌, arith, length-append}
use Rattle.std.proofs.Math.ListN.{replicate}
use Rattle.std.proofs.lemmas.List.{drop-replicate, length-replicate, take_at}
use Rattle.sb_types.proofs.inline.InlineText.new.Goals as goal

pub invariant_of-result : goal.invariant_of-result
invariant_of-result g c =
    let cap = g.row.CAP in
    let n = length c.args.text.now in
    let text = c.copy_from_slice.new.self in
    let behind : drop n (replicate {A = ℕ} cap 0) ≡ replicate (cap - n) 0 = drop-replicate n cap 0 in
    let len : length text ≡ n = ap length c.copy_from_slice.ensures.after in (
      c.requires.fits,
      rw behind (length-append text (replicate (cap - n) 0) ∙ omega (arith, len, length-replicate {A = ℕ} (cap - n) 0, c.requires.fits)),
      rw behind (ap (λ (front : List ℕ). front ++ replicate (cap - n) 0) (sym (take_at text (replicate (cap - n) 0) n len))),
    )
