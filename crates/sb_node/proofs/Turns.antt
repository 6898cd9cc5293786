-- The blocks of a delta, some taken and others to come.
use Rattle.std.proofs.Common.{◌≡◌, List, [], ◌∷◌, ◌++◌, sym, ap, subst, ◌∙◌, append_assoc}
use Rattle.std.proofs.lemmas.List.{append-nil}
use Rattle.sb_types.specs.Records.{Block}
use Rattle.sb_holdings.specs.declared.ends.BlockEnd.{BlockEnd}
use Rattle.sb_holdings.specs.Ends.{Fits}
use Rattle.sb_holdings.specs.Nodes.{Node, node_after_block, replay_node}
use Rattle.sb_holdings.specs.Treats.{Treats, took_each}

-- from the first state these ends lead to the present one, where the rest of the blocks are to come
pub record Turned (first now : Node) (blocks rest : List Block) (ends : List BlockEnd) : Type 0 where
  pub treats : (more : List BlockEnd) → Treats now rest more → Treats first blocks (ends ++ more)
  pub node : (more : List BlockEnd) → replay_node first (took_each blocks (ends ++ more)) ≡ replay_node now (took_each rest more)

pub all_treated : {first now : Node} {blocks : List Block} {ends : List BlockEnd} → Turned first now blocks [] ends → Treats first blocks ends
all_treated {first} {now} {blocks} {ends} turned = subst (Treats first blocks) (append-nil ends) (turned.treats [] tt)

pub all_replayed : {first now : Node} {blocks : List Block} {ends : List BlockEnd} → Turned first now blocks [] ends → now ≡ replay_node first (took_each blocks ends)
all_replayed {first} {now} {blocks} {ends} turned = sym (ap (λ (es : List BlockEnd). replay_node first (took_each blocks es)) (sym (append-nil ends)) ∙ turned.node [])

-- the next of the blocks that are to come is taken
pub turned_on : {first now next : Node} {blocks rest : List Block} {ends : List BlockEnd} (b : Block) (end : BlockEnd) →
    Turned first now blocks (b ∷ rest) ends → Fits now.held b end → next ≡ node_after_block now b end → Turned first next blocks rest (ends ++ end ∷ [])
turned_on {first} {now} {next} {blocks} {rest} {ends} b end turned fits same = record {
  treats = λ more t.
      subst (Treats first blocks) (sym (append_assoc ends (end ∷ []) more))
      (turned.treats (end ∷ more) (fits, subst (λ (n : Node). Treats n rest more) same t));
  node = λ more.
      ap (λ (es : List BlockEnd). replay_node first (took_each blocks es)) (append_assoc ends (end ∷ []) more)
      ∙ turned.node (end ∷ more) ∙ ap (λ (n : Node). replay_node n (took_each rest more)) (sym same);
}
