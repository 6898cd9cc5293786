-- The parts of a block above a version, whole or a front of it.
use Rattle.std.proofs.Common.{◌≡◌, ℕ, ◌≤◌, List, refl}
use Rattle.sb_types.specs.declared.entry.Write.{Write}
use Rattle.sb_types.specs.Records.{Block}
use Rattle.sb_types.specs.Runs.{IsRun, IsBlock}
use Rattle.sb_types.specs.Writes.{Tells, Honest}
use Rattle.sb_holdings.specs.Blocks.{part_above, leading_part}
use Rattle.sb_table.proofs.Order.{run_above, run_front}
use Rattle.sb_holdings.proofs.Telling.{tells_above, tells_front}

pub record IsPart (b : Block) (version : ℕ) (p : Block) : Type 0 where
  pub floor : p.floor ≡ b.floor
  pub run : IsRun version p.upto p.entries
  pub honest : (writes : List Write) → Honest writes b → Tells writes p.floor version p.upto p.entries

pub part_is : (b : Block) (version : ℕ) → IsBlock b → b.after ≤ version → version ≤ b.upto → IsPart b version (part_above version b)
part_is b version i l m = record {
  floor = refl;
  run = run_above version m i.run;
  honest = λ writes h. tells_above version l h;
}

pub front_is : (n : ℕ) (b : Block) (version : ℕ) → IsBlock b → b.after ≤ version → version ≤ b.upto → IsPart b version (leading_part n (part_above version b))
front_is n b version i l m =
    let p = part_is b version i l m in
    record {
      floor = refl;
      run = run_front n p.run;
      honest = λ writes h. tells_front n p.run (p.honest writes h);
    }
