use Rattle.std.proofs.Common.{◌∙◌, ap₂}
use Rattle.sb_audit.specs.declared.foreign.Foreign.{Foreign}
use Rattle.sb_audit.specs.Search.{first_foreign}
use Rattle.sb_audit.proofs.Firsts.{found_first, found_reason, found_none}
use Rattle.sb_audit.proofs.foreign.find_foreign.Goals as goal

pub returns-clause-found : goal.returns-clause-found
returns-clause-found c =
    let t = c.args.table.now in
    let is = c.first_foreign.ensures.first ∙ ap₂ (first_foreign t) c.upto.ensures.upto c.entries.ensures.entries in
    found_first t c.args.block.now.upto c.first_foreign.ensures.table.is.run (λ (it : Foreign). it.entry.now) (λ it. it.reason) c.args.block.now.entries c.first_foreign.result is

pub returns-clause-reason : goal.returns-clause-reason
returns-clause-reason c =
    let t = c.args.table.now in
    let is = c.first_foreign.ensures.first ∙ ap₂ (first_foreign t) c.upto.ensures.upto c.entries.ensures.entries in
    found_reason t c.args.block.now.upto c.first_foreign.ensures.table.is.run (λ (it : Foreign). it.entry.now) (λ it. it.reason) c.args.block.now.entries c.first_foreign.result is

pub returns-clause-none : goal.returns-clause-none
returns-clause-none c =
    let t = c.args.table.now in
    let is = c.first_foreign.ensures.first ∙ ap₂ (first_foreign t) c.upto.ensures.upto c.entries.ensures.entries in
    found_none t c.args.block.now.upto c.first_foreign.ensures.table.is.run (λ (it : Foreign). it.entry.now) (λ it. it.reason) c.args.block.now.entries c.first_foreign.result is
