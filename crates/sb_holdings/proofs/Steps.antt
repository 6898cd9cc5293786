-- A step of a holder, and steps one after another.
use Rattle.std.proofs.Common.{List, inl, inr, ⊎_elim, ap, arith}
use Rattle.sb_types.specs.declared.entry.Write.{Write}
use Rattle.sb_types.specs.Records.{Entry, Table, Holder}
use Rattle.sb_types.specs.Runs.{IsTable}
use Rattle.sb_types.specs.Writes.{IsHolder, HolderHolds}
use Rattle.sb_holdings.specs.Progress.{Onward, Later}
use Rattle.sb_table.proofs.Order.{run_upto, run_one}

-- a step from h to k, which keeps truth where what is assumed holds
pub record Step (writes : List Write) (assumed : Type 0) (h k : Holder) : Type 0 where
  pub is : IsHolder k
  pub onward : Onward h.shown k.shown
  pub holds : assumed → HolderHolds writes h → HolderHolds writes k

pub stays : (t : Table) → Onward t t
stays t = record { held = omega arith; each = λ e s. inl s }

pub unchanged : {writes : List Write} {assumed : Type 0} {h : Holder} → IsHolder h → Step writes assumed h h
unchanged {h = h} i = record { is = i; onward = stays h.shown; holds = λ _ t. t }

chained : (a b c : Table) → Onward a b → Onward b c → Onward a c
chained a b c p q = record {
  held = omega (arith, p.held, q.held);
  each = λ e s. ⊎_elim (p.each e) (λ new. inr (omega (arith, p.held, new))) (q.each e s);
}

pub two_steps : {writes : List Write} {first second both : Type 0} {h k l : Holder} → (both → first) → (both → second) → Step writes first h k → Step writes second k l → Step writes both h l
two_steps {h = h} {k = k} {l = l} a b s t = record {
  is = t.is;
  onward = chained h.shown k.shown l.shown s.onward t.onward;
  holds = λ both true. t.holds (b both) (s.holds (a both) true);
}

pub later : (a b : Table) → IsTable a → Onward a b → Later a b
later a b i o = record {
  held = o.held;
  versions = λ x y s t k. ⊎_elim
      (λ old. omega (arith, ap (λ (e : Entry). e.version) (run_one x y i.run s old k)))
      (λ new. omega (arith, new, run_upto x i.run s))
      (o.each y t);
}
