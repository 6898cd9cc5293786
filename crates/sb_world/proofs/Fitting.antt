-- A world that has just been made fits each list of writes that its logs' contents come of, and there is one.
use Rattle.std.proofs.Common.{◌≡◌, ℕ, Bool, true, false, cond, nat_eq, List, [], ◌∷◌, ◌⊎◌, inl, inr, Option, Some, None, IfSome, refl, sym, ap, subst, ◌∙◌}
use Rattle.std.specs.Prelude.{unwrap_or}
use Rattle.std.specs.Option.{option_map_or}
use Rattle.std.specs.Cmp.Lexicographic.{pointwise}
use Rattle.sb_types.specs.declared.entry.Write.{Write}
use Rattle.sb_types.specs.Records.{Settings}
use Rattle.sb_types.specs.Runs.{Stands}
use Rattle.sb_table.specs.Contents.{IsContent}
use Rattle.sb_holdings.specs.Contents.{content_table}
use Rattle.sb_holdings.specs.Nodes.{opened_node}
use Rattle.sb_holdings.proofs.Filling.{table_writes}
use Rattle.sb_world.specs.Connections.{Connection}
use Rattle.sb_world.specs.Places.{Place, Seen, place_at, IsClean}
use Rattle.sb_world.specs.States.{floor_at, start_of, AreContents, IsFresh, FitsWorld}
use Rattle.sb_world.specs.Making.{IsNew, IsMade}
use Rattle.sb_world.proofs.Names.{found_me}
use Rattle.sb_world.proofs.Stepping.{some_map}

-- a node that is found stands among the nodes
found_stands : (ps : List Place) (name : List ℕ) (p : Place) → place_at ps name ≡ Some p → Stands ps p
found_stands [] name p found = absurd (cc)
found_stands (x ∷ ps) name p found = go (pointwise nat_eq x.me name) found (found_stands ps name p)
  where
    go : (b : Bool) → cond b (Some x) (place_at ps name) ≡ Some p → (place_at ps name ≡ Some p → Stands ps p) → (x ≡ p) ⊎ Stands ps p
    go true found rest = inl (ap (λ o. unwrap_or o x) found)
    go false found rest = inr (rest found)

-- what holds of each node that stands there holds of each that is found
pub each_found : (P : Place → Type 0) (ps : List Place) → ((p : Place) → Stands ps p → P p) → (name : List ℕ) → IfSome (place_at ps name) P
each_found P ps each name = go (place_at ps name) refl
  where
    go : (o : Option Place) → place_at ps name ≡ o → IfSome o P
    go None is = tt
    go (Some p) is = each p (found_stands ps name p is)

module _ (world : Seen) (made : IsMade world) (clean : IsClean world.places) where
  new_clean : (name : List ℕ) (p : Place) → place_at world.places name ≡ Some p → p.log.is_clean ≡ true
  new_clean name p is = subst (λ (o : Option Place). IfSome o (λ r. r.log.is_clean ≡ true)) is (clean name)

  -- the writes of each name that make its log's content
  chosen : (o : Option Place) → IfSome o (λ p. IsContent p.log.content) → List Write
  chosen None is = []
  chosen (Some p) is = (table_writes p.log.content is).0

  chosen_are : (o : Option Place) (is : IfSome o (λ p. IsContent p.log.content)) → IfSome o (λ p. p.log.content ≡ content_table p.log.content.floor (chosen o is))
  unfolding chosen
  chosen_are None is = tt
  chosen_are (Some p) is = sym (table_writes p.log.content is).1

  content_at : (name : List ℕ) → IfSome (place_at world.places name) (λ p. IsContent p.log.content)
  content_at name = some_map _ _ (place_at world.places name) (λ p is new. new.table (new_clean name p is)) (made.places name)

  pub some_contents : (writes : List ℕ → List Write) × AreContents writes world.places
  some_contents =
      let writes : List ℕ → List Write = λ name. chosen (place_at world.places name) (content_at name) in
      (writes, λ name. some_map _ _ (place_at world.places name) (λ p is content. content ∙ ap (λ n. content_table p.log.content.floor (writes n)) (sym (found_me world.places name p is))) (chosen_are (place_at world.places name) (content_at name)))

  -- the floor of a name's log is that of its node
  floor_found : (name : List ℕ) (p : Place) → place_at world.places name ≡ Some p → floor_at world.places p.me ≡ p.log.content.floor
  floor_found name p is = ap (λ (o : Option Place). option_map_or (λ (q : Place). q.log.content.floor) o 0) (ap (place_at world.places) (found_me world.places name p is) ∙ is)

  pub made_fits : (writes : List ℕ → List Write) → AreContents writes world.places → FitsWorld (start_of writes world) world
  made_fits writes contents = record {
    reached = record {
      start = start_of writes world;
      is_start = record {
        places = λ name. some_map _ _ (place_at world.places name) (λ p is new. fresh name p is new (subst (λ (o : Option Place). IfSome o (λ r. r.log.content ≡ content_table r.log.content.floor (writes r.me))) is (contents name))) (made.places name);
        connections = made.connections;
        sent = made.sent;
        wires = λ number. refl;
      };
      events = [];
      answers = [];
      states = [];
      run = tt;
      last = refl;
    };
    now = refl;
  }
    where
      fresh : (name : List ℕ) (p : Place) → place_at world.places name ≡ Some p → IsNew world.settings p → p.log.content ≡ content_table p.log.content.floor (writes p.me) → IsFresh (start_of writes world) p
      fresh name p is new content =
          let node : p.core.node ≡ opened_node p.me p.log.content = new.node (new_clean name p is) in
          let opening : opened_node p.me (content_table (floor_at world.places p.me) (writes p.me)) ≡ p.core.node =
          ap (λ floor. opened_node p.me (content_table floor (writes p.me))) (floor_found name p is) ∙ sym (node ∙ ap (opened_node p.me) content) in
          record {
            owner = new.owner;
            content = content;
            kept = (new.table (new_clean name p is)).table;
            settings = new.settings;
            node = node;
            waiting = new.waiting;
            up = new.up;
            past = λ i. record { opening = opening i; since = []; openings = 0 };
          }

pub made_is : (settings : Settings) (ps : List Place) (conns : List Connection) (sent : List (List ℕ)) → ((p : Place) → Stands ps p → IsNew settings p) → conns ≡ [] → sent ≡ [] →
    IsMade (record { settings = settings; places = ps; connections = conns; sent = sent })
made_is settings ps conns sent each alone none = record { places = each_found (IsNew settings) ps each; connections = alone; sent = none }
