-- What came and went on the connections, as events happen.
use Rattle.std.proofs.Common.{◌≡◌, ◌≢◌, ◌⊎◌, ℕ, Bool, true, false, cond, not, nat_eq, List, [], ◌∷◌, ◌++◌, filter, take, drop, length, inl, inr, ⊎_elim, Option, Some, None, Result, Ok, Err, refl, sym, ap, subst, ◌∙◌, eqb-true, eq-eqb, ne_eqb}
use Rattle.std.specs.Prelude.{unwrap_or}
use Rattle.std.specs.List.{flat_map}
use Rattle.std.specs.Cmp.Lexicographic.{pointwise}
use Rattle.std.proofs.lemmas.Bool.{true≢false}
use Rattle.std.proofs.lemmas.List.{append_assoc, take-append-drop}
use Rattle.std.proofs.lemmas.Grind.{flat_map-append}
use Rattle.sb_types.specs.declared.fault.Fault.{Fault}
use Rattle.sb_types.specs.declared.fault.Fault.TheVariants.{Closed}
use Rattle.sb_types.specs.Runs.{Stands}
use Rattle.sb_types.proofs.Standing.{either, of_kept, left as stands_left}
use Rattle.sb_codec.specs.declared.message.Message.{Message}
use Rattle.sb_frames.specs.Frames.{frame}
use Rattle.sb_frames.specs.Streams.{Stream, open_with, TakesNext, Hands}
use Rattle.sb_session.specs.Sessions.{Session, hello_of}
use Rattle.sb_world.specs.declared.event.Event.{Event}
use Rattle.sb_world.specs.declared.event.Event.TheVariants.{Commit, Take, CrashInCommit, Purge, Trim, Restart, Connect, Close, Line, Piece, Ask, Offer, Read, Upto}
use Rattle.sb_world.specs.Connections.{Connection, connection_at, with_connection, without_connection, of_others}
use Rattle.sb_world.specs.Connecting.{session_at, new_connection, Connects, Closes, connection_with_bytes, LinesUp, in_session, Asked, AsksOn, stream_with_piece, listener, heard_by, connections_after, Delivers, Pieces}
use Rattle.sb_world.specs.Events.{answers_to, Acts, ActsWhere, Does}
use Rattle.sb_world.specs.Hearing.{Listener, Heard, Hears, Tells}
use Rattle.sb_world.specs.Places.{Place, frame_at}
use Rattle.sb_world.specs.Turns.{Turn, rests, with_core}
use Rattle.sb_world.specs.Wires.{Wire, new_wire, messages_in, wire_after_connect, wire_after_line, wire_after_piece, wires_with, wires_by, IsHistory, IsTrueWire, IsPastWire, AreDistinct, AreTrueWires}
use Rattle.sb_world.proofs.Acting.{frame_stands}
use Rattle.sb_world.proofs.Keeping.{joined}
use Rattle.sb_world.proofs.Lines.{laid_more}
use Rattle.sb_world.proofs.Listening.{nothing_next, tells_end}

-- ---- the history of one number

module _ (wires : ℕ → Wire) (number : ℕ) (w : Wire) where
  wired_here : wires_with wires number w number ≡ w
  wired_here = rw (eq-eqb number number refl) refl

  wired_there : (other : ℕ) → other ≢ number → wires_with wires number w other ≡ wires other
  wired_there other apart = rw (ne_eqb other number apart) refl

  wired_again : w ≡ wires number → (other : ℕ) → wires_with wires number w other ≡ wires other
  wired_again same other = go (nat_eq other number) refl
    where
      go : (b : Bool) → nat_eq other number ≡ b → cond b w (wires other) ≡ wires other
      go true is = same ∙ sym (ap wires (eqb-true other number is))
      go false is = refl

-- ---- connections by their numbers

-- where a test of the number failed it is another
other_number : (c : Connection) (number : ℕ) → nat_eq c.number number ≡ false → c.number ≢ number
other_number c number is same = true≢false (sym (eq-eqb c.number number same) ∙ is)

named_so : (x c : Connection) (number : ℕ) → x ≡ c → x.number ≢ number → c.number ≢ number
named_so x c number same apart is = apart (ap (λ (k : Connection). k.number) same ∙ is)

found_number : (cs : List Connection) (number : ℕ) (c : Connection) → connection_at cs number ≡ Some c → c.number ≡ number
found_number [] number c found = absurd (cc)
found_number (x ∷ xs) number c found = go (nat_eq x.number number) refl found (found_number xs number c)
  where
    go : (b : Bool) → nat_eq x.number number ≡ b → cond b (Some x) (connection_at xs number) ≡ Some c → (connection_at xs number ≡ Some c → c.number ≡ number) → c.number ≡ number
    go true is found rest = sym (ap (λ o. (unwrap_or o x).number) found) ∙ eqb-true x.number number is
    go false is found rest = rest found

found_stands : (cs : List Connection) (number : ℕ) (c : Connection) → connection_at cs number ≡ Some c → Stands cs c
found_stands [] number c found = absurd (cc)
found_stands (x ∷ xs) number c found = go (nat_eq x.number number) found (found_stands xs number c)
  where
    go : (b : Bool) → cond b (Some x) (connection_at xs number) ≡ Some c → (connection_at xs number ≡ Some c → Stands xs c) → (x ≡ c) ⊎ Stands xs c
    go true is rest = inl (ap (λ o. unwrap_or o x) is)
    go false is rest = inr (rest is)

absent : (cs : List Connection) (number : ℕ) → connection_at cs number ≡ None → (c : Connection) → Stands cs c → c.number ≢ number
absent [] number none c stands = absurd stands
absent (x ∷ xs) number none c stands = go (nat_eq x.number number) refl none (absent xs number) stands
  where
    go : (b : Bool) → nat_eq x.number number ≡ b → cond b (Some x) (connection_at xs number) ≡ None → (connection_at xs number ≡ None → (d : Connection) → Stands xs d → d.number ≢ number) → (x ≡ c) ⊎ Stands xs c → c.number ≢ number
    go true is none rest stands = absurd (cc)
    go false is none rest (inl same) = named_so x c number same (other_number x number is)
    go false is none rest (inr s) = rest none c s

-- what stands where another took a connection's place, or one went
of_with : (cs : List Connection) (number : ℕ) (d c : Connection) → AreDistinct cs → Stands (with_connection cs number d) c → (d ≡ c) ⊎ (Stands cs c × (c.number ≢ number))
of_with [] number d c apart stands = absurd stands
of_with (x ∷ xs) number d c apart stands = go (nat_eq x.number number) refl stands (of_with xs number d c apart.1)
  where
    go : (b : Bool) → nat_eq x.number number ≡ b → Stands (cond b (d ∷ xs) (x ∷ with_connection xs number d)) c → (Stands (with_connection xs number d) c → (d ≡ c) ⊎ (Stands xs c × (c.number ≢ number))) →
        (d ≡ c) ⊎ (Stands (x ∷ xs) c × (c.number ≢ number))
    go true is (inl same) rest = inl same
    go true is (inr s) rest = inr (inr s, λ e. apart.0 c s (e ∙ sym (eqb-true x.number number is)))
    go false is (inl same) rest = inr (inl same, named_so x c number same (other_number x number is))
    go false is (inr s) rest = ⊎_elim (λ same. inl same) (λ both. inr (inr both.0, both.1)) (rest s)

of_without : (cs : List Connection) (number : ℕ) (c : Connection) → AreDistinct cs → Stands (without_connection cs number) c → Stands cs c × (c.number ≢ number)
of_without [] number c apart stands = absurd stands
of_without (x ∷ xs) number c apart stands = go (nat_eq x.number number) refl stands (of_without xs number c apart.1)
  where
    go : (b : Bool) → nat_eq x.number number ≡ b → Stands (cond b xs (x ∷ without_connection xs number)) c → (Stands (without_connection xs number) c → Stands xs c × (c.number ≢ number)) → Stands (x ∷ xs) c × (c.number ≢ number)
    go true is s rest = (inr s, λ e. apart.0 c s (e ∙ sym (eqb-true x.number number is)))
    go false is (inl same) rest = (inl same, named_so x c number same (other_number x number is))
    go false is (inr s) rest = let both = rest s in (inr both.0, both.1)

-- ---- no two have one number

distinct_with : (cs : List Connection) (number : ℕ) (d : Connection) → d.number ≡ number → AreDistinct cs → AreDistinct (with_connection cs number d)
distinct_with [] number d named apart = tt
distinct_with (x ∷ xs) number d named apart = go (nat_eq x.number number) refl (distinct_with xs number d named apart.1)
  where
    go : (b : Bool) → nat_eq x.number number ≡ b → AreDistinct (with_connection xs number d) → AreDistinct (cond b (d ∷ xs) (x ∷ with_connection xs number d))
    go true is rest = (λ e s. λ same. apart.0 e s (same ∙ named ∙ sym (eqb-true x.number number is)), apart.1)
    go false is rest = (
      λ e s. ⊎_elim (λ same q. other_number x number is (sym q ∙ sym (ap (λ (k : Connection). k.number) same) ∙ named)) (λ both. apart.0 e both.0) (of_with xs number d e apart.1 s),
      rest,
    )

distinct_without : (cs : List Connection) (number : ℕ) → AreDistinct cs → AreDistinct (without_connection cs number)
distinct_without [] number apart = tt
distinct_without (x ∷ xs) number apart = go (nat_eq x.number number) (distinct_without xs number apart.1)
  where
    go : (b : Bool) → AreDistinct (without_connection xs number) → AreDistinct (cond b xs (x ∷ without_connection xs number))
    go true rest = apart.1
    go false rest = (λ e s. apart.0 e (of_without xs number e apart.1 s).0, rest)

distinct_filter : (test : Connection → Bool) (cs : List Connection) → AreDistinct cs → AreDistinct (filter test cs)
distinct_filter test [] apart = tt
distinct_filter test (x ∷ xs) apart = go (test x) (distinct_filter test xs apart.1)
  where
    go : (b : Bool) → AreDistinct (filter test xs) → AreDistinct (cond b (x ∷ filter test xs) (filter test xs))
    go true rest = (λ e s. apart.0 e (of_kept test xs e s).0, rest)
    go false rest = rest

distinct_more : (cs : List Connection) (d : Connection) → AreDistinct cs → ((c : Connection) → Stands cs c → c.number ≢ d.number) → AreDistinct (cs ++ d ∷ [])
distinct_more [] d apart others = (λ e s. absurd s, tt)
distinct_more (x ∷ xs) d apart others = (λ e s. ⊎_elim (apart.0 e) (last e) (either xs (d ∷ []) e s), distinct_more xs d apart.1 (λ c s. others c (inr s)))
  where
    last : (e : Connection) → Stands (d ∷ []) e → e.number ≢ x.number
    last e (inl same) q = others x (inl refl) (sym q ∙ sym (ap (λ (k : Connection). k.number) same))
    last e (inr s) q = absurd s

-- ---- more was sent

history_later : (sent more : List (List ℕ)) (w : Wire) (rest left : List ℕ) → IsHistory sent w rest left → IsHistory (sent ++ more) w rest left
history_later sent more w rest left h = record { sent_all = λ bytes stands. stands_left sent more bytes (h.sent_all bytes stands); taken = h.taken; lined = h.lined }

wire_later : (sent more : List (List ℕ)) (w : Wire) (c : Connection) → IsTrueWire sent w c → IsTrueWire (sent ++ more) w c
wire_later sent more w c t = record { rest = t.rest; stands = t.stands; history = history_later sent more w t.rest c.left t.history }

past_later : (sent more : List (List ℕ)) (w : Wire) → IsPastWire sent w → IsPastWire (sent ++ more) w
past_later sent more w t = record { rest = t.rest; left = t.left; history = history_later sent more w t.rest t.left t.history }

past_of : (sent : List (List ℕ)) (w : Wire) (c : Connection) → IsTrueWire sent w c → IsPastWire sent w
past_of sent w c t = record { rest = t.rest; left = c.left; history = t.history }

-- nothing was lined up and nothing came
new_history : (sent : List (List ℕ)) → IsHistory sent new_wire [] []
new_history sent = record { sent_all = λ bytes stands. absurd stands; taken = refl; lined = refl }

pub none_wired : (sent : List (List ℕ)) (wires : ℕ → Wire) → ((number : ℕ) → wires number ≡ new_wire) → AreTrueWires sent [] wires
none_wired sent wires new = record {
  standing = λ c stands. absurd stands;
  each = λ number. subst (IsPastWire sent) (sym (new number)) (record { rest = []; left = []; history = new_history sent });
  distinct = tt;
}

-- the messages that were heard are those of the frames that were held first
heard_laid : (a : Listener) (heard : List Heard) (b : Listener) (held : List ℕ) → a.stream ≡ open_with held → Hears a heard b → (rest : List ℕ) × (b.stream ≡ open_with rest) × (held ≡ flat_map frame (messages_in heard) ++ rest)
heard_laid a [] b held stands is = (held, ap (λ (l : Listener). l.stream) is ∙ stands, refl)
heard_laid a (h ∷ hs) b held stands hears =
    let mid = hears.0 in
    let hands : Hands held h.message mid.stream = subst (λ (s : Stream). TakesNext s (Ok (Some h.message)) mid.stream) stands hears.1.0 in
    let more = heard_laid mid hs b hands.rest hands.left hears.2 in
    (more.0, more.1, hands.leads.laid ∙ ap (λ (xs : List ℕ). frame h.message ++ xs) more.2 ∙ sym (append_assoc (frame h.message) (flat_map frame (messages_in hs)) more.0))

module _ (sent : List (List ℕ)) (conns : List Connection) (wires : ℕ → Wire) (t : AreTrueWires sent conns wires) where
  -- ---- what becomes of all of them

  -- nothing is added, and no connection begins
  quiet : (more : List (List ℕ)) (new : List Connection) (after : ℕ → Wire) → ((number : ℕ) → after number ≡ wires number) → ((c : Connection) → Stands new c → Stands conns c) → AreDistinct new → AreTrueWires (sent ++ more) new after
  quiet more new after same fewer distinct = record {
    standing = λ c stands. subst (λ (w : Wire). IsTrueWire (sent ++ more) w c) (sym (same c.number)) (wire_later sent more (wires c.number) c (t.standing c (fewer c stands)));
    each = λ number. subst (IsPastWire (sent ++ more)) (sym (same number)) (past_later sent more (wires number) (t.each number));
    distinct = distinct;
  }

  alone : (more : List (List ℕ)) (new : List Connection) (after : ℕ → Wire) → ((number : ℕ) → after number ≡ wires number) → new ≡ conns → AreTrueWires (sent ++ more) new after
  alone more new after same is = quiet more new after same (λ c stands. subst (λ (cs : List Connection). Stands cs c) is stands) (subst AreDistinct (sym is) t.distinct)

  fewer : (more : List (List ℕ)) (new : List Connection) (me : List ℕ) → new ≡ of_others me conns → AreTrueWires (sent ++ more) new wires
  fewer more new me is =
      let test : Connection → Bool = λ c. not (pointwise nat_eq c.me me) in
      quiet more new wires (λ number. refl) (λ c stands. (of_kept test conns c (subst (λ (cs : List Connection). Stands cs c) is stands)).0) (subst AreDistinct (sym is) (distinct_filter test conns t.distinct))

  some_left : (all : Bool) (more : List (List ℕ)) (new : List Connection) (me : List ℕ) → new ≡ cond all conns (of_others me conns) → AreTrueWires (sent ++ more) new wires
  some_left true more new me is = alone more new wires (λ number. refl) is
  some_left false more new me is = fewer more new me is

  closed : (more : List (List ℕ)) (new : List Connection) (number : ℕ) → new ≡ without_connection conns number → AreTrueWires (sent ++ more) new wires
  closed more new number is =
      quiet more new wires (λ n. refl) (λ c stands. (of_without conns number c t.distinct (subst (λ (cs : List Connection). Stands cs c) is stands)).0) (subst AreDistinct (sym is) (distinct_without conns number t.distinct))

  each_wired : (more : List (List ℕ)) (number : ℕ) (w : Wire) → IsPastWire (sent ++ more) w → (other : ℕ) → IsPastWire (sent ++ more) (wires_with wires number w other)
  each_wired more number w past other = go (nat_eq other number)
    where
      go : (b : Bool) → IsPastWire (sent ++ more) (cond b w (wires other))
      go true = past
      go false = past_later sent more (wires other) (t.each other)

  -- of each other it stays
  others_wired : (more : List (List ℕ)) (number : ℕ) (w : Wire) (c : Connection) → Stands conns c → c.number ≢ number → IsTrueWire (sent ++ more) (wires_with wires number w c.number) c
  others_wired more number w c stands apart =
      subst (λ (x : Wire). IsTrueWire (sent ++ more) x c) (sym (wired_there wires number w c.number apart)) (wire_later sent more (wires c.number) c (t.standing c stands))

  -- one changes, and so does its history
  changed : (more : List (List ℕ)) (number : ℕ) (d : Connection) (w : Wire) → d.number ≡ number → IsTrueWire (sent ++ more) w d → AreTrueWires (sent ++ more) (with_connection conns number d) (wires_with wires number w)
  changed more number d w named is = record {
    standing = λ c stands.
        ⊎_elim
        (λ same. subst (λ (e : Connection). IsTrueWire (sent ++ more) (wires_with wires number w e.number) e) same
        (subst (λ (x : Wire). IsTrueWire (sent ++ more) x d) (sym (ap (wires_with wires number w) named ∙ wired_here wires number w)) is))
        (λ both. others_wired more number w c both.0 both.1)
        (of_with conns number d c t.distinct stands);
    each = each_wired more number w (past_of (sent ++ more) w d is);
    distinct = distinct_with conns number d named t.distinct;
  }

  -- one goes, with a history that it has for good
  gone : (more : List (List ℕ)) (number : ℕ) (w : Wire) → IsPastWire (sent ++ more) w → AreTrueWires (sent ++ more) (without_connection conns number) (wires_with wires number w)
  gone more number w past = record {
    standing = λ c stands. let both = of_without conns number c t.distinct stands in others_wired more number w c both.0 both.1;
    each = each_wired more number w past;
    distinct = distinct_without conns number t.distinct;
  }

  -- one begins
  begins : (more : List (List ℕ)) (d : Connection) → connection_at conns d.number ≡ None → IsTrueWire (sent ++ more) new_wire d → AreTrueWires (sent ++ more) (conns ++ d ∷ []) (wires_with wires d.number new_wire)
  begins more d none is = record {
    standing = λ c stands. ⊎_elim (λ s. others_wired more d.number new_wire c s (absent conns d.number none c s)) (one c) (either conns (d ∷ []) c stands);
    each = each_wired more d.number new_wire (past_of (sent ++ more) new_wire d is);
    distinct = distinct_more conns d t.distinct (absent conns d.number none);
  }
    where
      one : (c : Connection) → Stands (d ∷ []) c → IsTrueWire (sent ++ more) (wires_with wires d.number new_wire c.number) c
      one c (inl same) = subst (λ (e : Connection). IsTrueWire (sent ++ more) (wires_with wires d.number new_wire e.number) e) same
          (subst (λ (x : Wire). IsTrueWire (sent ++ more) x d) (sym (wired_here wires d.number new_wire)) is)
      one c (inr s) = absurd s

  -- ---- each event

  there : (number : ℕ) (c : Connection) → connection_at conns number ≡ Some c → IsTrueWire sent (wires number) c
  there number c found = subst (λ (n : ℕ). IsTrueWire sent (wires n) c) (found_number conns number c found) (t.standing c (found_stands conns number c found))

  module _ (p : Place) where
    connects_wires : (found : Option Connection) (number : ℕ) → connection_at conns number ≡ found → (turn : Turn) (new : List Connection) → Connects found p number conns sent turn new →
        AreTrueWires (sent ++ turn.frames) new (wires_with wires number (wire_after_connect turn.answer (wires number)))
    connects_wires (Some c) number at_number turn new stays =
        alone turn.frames new _ (wired_again wires number _ (ap (λ (x : Turn). wire_after_connect x.answer (wires number)) stays.0)) stays.1
    connects_wires None number at_number turn new acts =
        ⊎_elim
        (λ stays. alone turn.frames new _ (wired_again wires number _ (ap (λ (x : Turn). wire_after_connect x.answer (wires number)) stays.0)) stays.1)
        (λ is. subst (λ (x : Turn). AreTrueWires (sent ++ x.frames) new (wires_with wires number (wire_after_connect x.answer (wires number)))) (sym is.2)
        (subst (λ (cs : List Connection). AreTrueWires (sent ++ frame (hello_of (session_at p)) ∷ []) cs (wires_with wires number new_wire)) (sym is.3)
        (begins (frame (hello_of (session_at p)) ∷ []) (new_connection p number) at_number
        (record { rest = []; stands = refl; history = new_history (sent ++ frame (hello_of (session_at p)) ∷ []) }))))
        acts

    closes_wires : (found : Option Connection) (number : ℕ) (turn : Turn) (new : List Connection) → Closes found p number conns turn new → AreTrueWires (sent ++ turn.frames) new wires
    closes_wires None number turn new stays = alone turn.frames new wires (λ n. refl) stays.1
    closes_wires (Some c) number turn new is = closed turn.frames new number is.1

    lines_wires : (found : Option Connection) (bytes : Option (List ℕ)) (number index : ℕ) → connection_at conns number ≡ found → frame_at sent index ≡ bytes → (turn : Turn) (new : List Connection) → LinesUp found bytes p number conns turn new →
        AreTrueWires (sent ++ turn.frames) new (wires_with wires number (wire_after_line turn.answer bytes (wires number)))
    lines_wires None bytes number index at_number at_index turn new stays =
        alone turn.frames new _ (wired_again wires number _ (ap (λ (x : Turn). wire_after_line x.answer bytes (wires number)) stays.0)) stays.1
    lines_wires (Some c) None number index at_number at_index turn new stays =
        alone turn.frames new _ (wired_again wires number _ (ap (λ (x : Turn). wire_after_line x.answer None (wires number)) stays.0)) stays.1
    lines_wires (Some c) (Some bytes) number index at_number at_index turn new acts =
        ⊎_elim
        (λ stays. alone turn.frames new _ (wired_again wires number _ (ap (λ (x : Turn). wire_after_line x.answer (Some bytes) (wires number)) stays.0)) stays.1)
        (λ is. subst (λ (x : Turn). AreTrueWires (sent ++ x.frames) new (wires_with wires number (wire_after_line x.answer (Some bytes) (wires number)))) (sym is.0)
        (subst (λ (cs : List Connection). AreTrueWires (sent ++ []) cs (wires_with wires number longer)) (sym is.1)
        (changed [] number (connection_with_bytes c bytes) longer (found_number conns number c at_number) (wire_later sent [] longer (connection_with_bytes c bytes) (record { rest = old.rest; stands = old.stands; history = history })))))
        acts
      where
        w : Wire
        w = wires number

        longer : Wire
        longer = record { lined = w.lined ++ bytes ∷ []; came = w.came; taken = w.taken }

        old : IsTrueWire sent w c
        old = there number c at_number

        one : (f : List ℕ) → Stands (bytes ∷ []) f → Stands sent f
        one f (inl same) = subst (Stands sent) same (frame_stands sent index bytes at_index)
        one f (inr s) = absurd s

        history : IsHistory sent longer old.rest (c.left ++ bytes)
        history = record {
          sent_all = joined (Stands sent) w.lined (bytes ∷ []) old.history.sent_all one;
          taken = old.history.taken;
          lined = sym (append_assoc w.came c.left bytes) ∙ ap (λ (xs : List ℕ). xs ++ bytes) old.history.lined ∙ sym (laid_more w.lined bytes);
        }

    asked_wires : (result : Result Message Fault) (q : Place) (c : Connection) (session : Session) (number : ℕ) → connection_at conns number ≡ Some c → (turn : Turn) (new : List Connection) → Asked result q c session number conns sent turn new →
        AreTrueWires (sent ++ turn.frames) new wires
    asked_wires (Err fault) q c session number at_number turn new stays = alone turn.frames new wires (λ n. refl) stays.1
    asked_wires (Ok m) q c session number at_number turn new asked =
        ⊎_elim
        (λ stays. alone turn.frames new wires (λ n. refl) stays.1)
        (λ is. subst (λ (cs : List Connection). AreTrueWires (sent ++ turn.frames) cs wires) (sym is.2)
        (unwired (changed turn.frames number (in_session c session) (wires number) (found_number conns number c at_number) (wire_later sent turn.frames (wires number) (in_session c session) on))))
        asked
      where
        old : IsTrueWire sent (wires number) c
        old = there number c at_number

        on : IsTrueWire sent (wires number) (in_session c session)
        on = record { rest = old.rest; stands = old.stands; history = old.history }

        unwired : {s : List (List ℕ)} {cs : List Connection} → AreTrueWires s cs (wires_with wires number (wires number)) → AreTrueWires s cs wires
        unwired {s} {cs} u =
            let same : (n : ℕ) → wires_with wires number (wires number) n ≡ wires n = wired_again wires number (wires number) refl in
            record {
              standing = λ d stands. subst (λ (w : Wire). IsTrueWire s w d) (same d.number) (u.standing d stands);
              each = λ n. subst (IsPastWire s) (same n) (u.each n);
              distinct = u.distinct;
            }

    asks_wires : (found : Option Connection) (number : ℕ) → connection_at conns number ≡ found → (turn : Turn) (new : List Connection) → AsksOn found p number conns sent turn new → AreTrueWires (sent ++ turn.frames) new wires
    asks_wires None number at_number turn new stays = alone turn.frames new wires (λ n. refl) stays.1
    asks_wires (Some c) number at_number turn new asks = asked_wires asks.0 (with_core p asks.2) c asks.1 number at_number turn new asks.4

    module _ (c : Connection) (number count : ℕ) (at_number : connection_at conns number ≡ Some c) (turn : Turn) (new : List Connection) (d : Delivers p c number count conns sent turn new) where
      abbrev w : Wire
      w = wires number

      abbrev piece : List ℕ
      piece = take count c.left

      abbrev longer : Wire
      longer = record { lined = w.lined; came = w.came ++ piece; taken = w.taken ++ messages_in d.heard }

      old : IsTrueWire sent w c
      old = there number c at_number

      laid : (rest : List ℕ) × (d.mid.stream ≡ open_with rest) × (old.rest ++ piece ≡ flat_map frame (messages_in d.heard) ++ rest)
      laid = heard_laid (listener p.core c count) d.heard d.mid (old.rest ++ piece) (ap (λ (s : Stream). stream_with_piece s piece) old.stands) d.hears

      history : IsHistory (sent ++ d.frames) longer laid.0 (drop count c.left)
      history = history_later sent d.frames longer laid.0 (drop count c.left) (record {
        sent_all = old.history.sent_all;
        taken =
            ap (λ (xs : List ℕ). xs ++ piece) old.history.taken
            ∙ append_assoc (flat_map frame w.taken) old.rest piece
            ∙ ap (λ (xs : List ℕ). flat_map frame w.taken ++ xs) laid.2
            ∙ sym (append_assoc (flat_map frame w.taken) (flat_map frame (messages_in d.heard)) laid.0)
            ∙ ap (λ (xs : List ℕ). xs ++ laid.0) (sym (flat_map-append frame w.taken (messages_in d.heard)));
        lined = append_assoc w.came piece (drop count c.left) ∙ ap (λ (xs : List ℕ). w.came ++ xs) (take-append-drop count c.left) ∙ old.history.lined;
      })

      stands_on : d.fault ≡ None → d.last.stream ≡ open_with laid.0
      stands_on none =
          let ends = tells_end (length sent) d.heard d.mid d.last d.items d.frames (subst (λ (f : Option Fault). Tells (length sent) d.heard d.mid d.last f d.items d.frames) none d.tells) in
          (subst (λ (s : Stream). TakesNext s nothing_next d.last.stream) laid.1 ends.0).1

      left_wires : (fault : Option Fault) → d.fault ≡ fault → AreTrueWires (sent ++ d.frames) (connections_after fault conns number (heard_by c count d.last)) (wires_with wires number longer)
      left_wires None is = changed d.frames number (heard_by c count d.last) longer (found_number conns number c at_number) (record { rest = laid.0; stands = stands_on is; history = history })
      left_wires (Some fault) is = gone d.frames number longer (record { rest = laid.0; left = drop count c.left; history = history })

      delivers_wires : AreTrueWires (sent ++ turn.frames) new (wires_with wires number (wire_after_piece turn.effect w))
      delivers_wires =
          subst (λ (x : Turn). AreTrueWires (sent ++ x.frames) new (wires_with wires number (wire_after_piece x.effect w))) (sym d.turn_is)
          (subst (λ (cs : List Connection). AreTrueWires (sent ++ d.frames) cs (wires_with wires number longer)) (sym d.left) (left_wires d.fault refl))

    pieces_wires : (found : Option Connection) (number count : ℕ) → connection_at conns number ≡ found → (turn : Turn) (new : List Connection) → Pieces found p number count conns sent turn new →
        AreTrueWires (sent ++ turn.frames) new (wires_with wires number (wire_after_piece turn.effect (wires number)))
    pieces_wires None number count at_number turn new stays =
        alone turn.frames new _ (wired_again wires number _ (ap (λ (x : Turn). wire_after_piece x.effect (wires number)) stays.0)) stays.1
    pieces_wires (Some c) number count at_number turn new d = delivers_wires c number count at_number turn new d

    acts_wires : (event : Event) (turn : Turn) (new : List Connection) → Acts event p conns sent turn new → AreTrueWires (sent ++ turn.frames) new (wires_by event turn.answer turn.effect sent wires)
    acts_wires (Commit me key slot) turn new acts = alone turn.frames new wires (λ n. refl) acts.1
    acts_wires (Take me) turn new acts = alone turn.frames new wires (λ n. refl) acts.1
    acts_wires (CrashInCommit me key slot is_kept) turn new acts = some_left turn.place.is_up turn.frames new p.me acts.1
    acts_wires (Purge me floor) turn new acts = some_left turn.place.is_up turn.frames new p.me acts.1
    acts_wires (Trim me floor) turn new acts = alone turn.frames new wires (λ n. refl) acts.1
    acts_wires (Restart me) turn new acts = fewer turn.frames new p.me acts.1
    acts_wires (Connect me number) turn new acts = connects_wires (connection_at conns number) number refl turn new acts
    acts_wires (Close number) turn new acts = closes_wires (connection_at conns number) number turn new acts
    acts_wires (Line number index) turn new acts = lines_wires (connection_at conns number) (frame_at sent index) number index refl refl turn new acts
    acts_wires (Piece number count) turn new acts = pieces_wires (connection_at conns number) number count refl turn new acts
    acts_wires (Ask number) turn new acts = asks_wires (connection_at conns number) number refl turn new acts
    acts_wires (Offer me owner after) turn new acts = alone turn.frames new wires (λ n. refl) acts.1
    acts_wires (Read me owner key) turn new acts = alone turn.frames new wires (λ n. refl) acts.1
    acts_wires (Upto me owner) turn new acts = alone turn.frames new wires (λ n. refl) acts.1

    -- a node that is down adds nothing
    down_same : (event : Event) (number : ℕ) → wires_by event (Err Closed) rests sent wires number ≡ wires number
    down_same (Connect me n) number = wired_again wires n (wires n) refl number
    down_same (Line n index) number = wired_again wires n (wires n) refl number
    down_same (Piece n count) number = wired_again wires n (wires n) refl number
    down_same event number = refl

    pub does_wires : (event : Event) (turn : Turn) (new : List Connection) → Does event p conns sent turn new → AreTrueWires (sent ++ turn.frames) new (wires_by event turn.answer turn.effect sent wires)
    does_wires event turn new does = where_wires (answers_to event p.is_up) does
      where
        where_wires : (b : Bool) → ActsWhere b event p conns sent turn new → AreTrueWires (sent ++ turn.frames) new (wires_by event turn.answer turn.effect sent wires)
        where_wires true acts = acts_wires event turn new acts
        where_wires false is = alone turn.frames new _ (λ number. ap (λ (x : Turn). wires_by event x.answer x.effect sent wires number) is.0 ∙ down_same event number) is.1
