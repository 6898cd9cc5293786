use Rattle.std.proofs.Common.{◌≡◌, ℕ, List, sym, ap, ◌∙◌, take, nat_cmp, Equal}
use Rattle.std.specs.Cmp.Lexicographic.{slice_cmp}
use Rattle.sb_types.proofs.Padded.{equal_cells, unequal_cells}
use Rattle.sb_types.proofs.inline.InlineTextOrd.cmp.Goals as goal

seen : (us vs xs ys : List ℕ) → us ≡ xs → vs ≡ ys → slice_cmp nat_cmp us vs ≡ slice_cmp nat_cmp xs ys
seen us vs xs ys e f = ap (λ z. slice_cmp nat_cmp z vs) e ∙ ap (slice_cmp nat_cmp xs) f

pub returns-in-Equal : goal.returns-in-Equal
returns-in-Equal g c =
    let e : slice_cmp nat_cmp c.self.inside.cells c.other.inside.cells ≡ Equal = sym c.order.ensures ∙ c.in-Equal.is in
    c.cmp.ensures ∙ equal_cells g.row.CAP c.self.inside.len c.other.inside.len c.self.inside.cells c.other.inside.cells c.self.invariant c.other.invariant e
    ∙ seen (take c.self.inside.len c.self.inside.cells) (take c.other.inside.len c.other.inside.cells) c.args.self.now c.args.other.now c.self.view_is c.other.view_is

pub returns-in_default : goal.returns-in_default
returns-in_default g c =
    c.order.ensures ∙ unequal_cells g.row.CAP c.self.inside.len c.other.inside.len c.self.inside.cells c.other.inside.cells c.self.invariant c.other.invariant (λ e. c.in_default.not-Equal (c.order.ensures ∙ e))
    ∙ seen (take c.self.inside.len c.self.inside.cells) (take c.other.inside.len c.other.inside.cells) c.args.self.now c.args.other.now c.self.view_is c.other.view_is
