use Rattle.std.proofs.Common.{◌≡◌, ℕ, suc, Bool, true, List, Option, inl, inr, subst}
use Rattle.std.proofs.KnownBytes.{Keeps-trans, Appends-kept}
use Rattle.std.specs.Io.KnownBytes.{Keeps}
use Rattle.sb_script.specs.declared.sim.Detail.{Detail}
use Rattle.sb_script.specs.declared.sim.Ending.{Ending}
use Rattle.sb_script.specs.declared.sim.Ending.TheVariants.{Whole, WrongLine, NoWorld}
use Rattle.sb_world.specs.Places.{Seen}
use Rattle.sb_script.specs.Played.{PlaysLine}
use Rattle.sb_script.specs.Told.{Explains, PlaysLines, EndsAt, Tells}

-- ---- what was printed is written

pub ends_kept : (ending : Ending) (a b c : Option (List ℕ)) → EndsAt ending a b → Keeps b c → EndsAt ending a c
ends_kept Whole a b c p q = Keeps-trans a b c p q
ends_kept WrongLine a b c p q = (p.0, Appends-kept a b c _ p.1 q)
ends_kept NoWorld a b c p q = (p.0, p.1, Appends-kept a b c _ p.2 q)

pub told_kept : (ending : Ending) (detail : Detail) (a b c : Option (List ℕ)) → Tells ending detail a b → Keeps b c → Tells ending detail a c
told_kept ending detail a b c (inl p) q = inl (ends_kept ending a b c p q)
told_kept ending detail a b c (inr p) q =
    let from = p.3 in inr (p.0, p.1, p.2, (from.0, from.1, from.2, from.3, ends_kept ending from.2 b c from.4 q))

-- ---- one more line

pub plays_more : (detail : Detail) (count : ℕ) (old mid new : Seen) (a b c d : Option (List ℕ)) (is_command : Bool)
    → PlaysLines detail count old a b mid → PlaysLine is_command mid b c new → is_command ≡ true → Explains detail c d
    → (more : ℕ) × PlaysLines detail more old a d new
plays_more detail count old mid new a b c d is_command before played same words =
    (suc count, (mid, b, before, (c, subst (λ is. PlaysLine is mid b c new) same played, words)))
