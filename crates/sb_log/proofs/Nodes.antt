-- The term that nodes stand for, and the nodes that a term needs.
use Rattle.std.proofs.Common.{◌≡◌, ℕ, zero, suc, pos, length, List, [], ◌∷◌, Option, Some, None, true, ◌&&◌, ◌≤◌, negsuc, slice_get, slice_index_or, refl, sym, ap, ◌∙◌, arith, eqb-true}
use Rattle.std.proofs.lemmas.Bool.{and_parts}
use Rattle.sqlite_value.specs.declared.keys.Collation.TheVariants.{Binary as Bytes, NoCase, RTrim}
use Rattle.sqlite_value.specs.declared.value.Value.TheVariants.{Null, Int, Real, Text, Blob}
use Rattle.sqlite_sql.specs.Term.{Term, lit, col, op2}
use Rattle.sqlite_sql.specs.declared.ops.BinaryOp.{BinaryOp}
use Rattle.sqlite_sql.specs.declared.ops.BinaryOp.TheVariants.{Arith, Compare, And, Or, Is, Coalesce, Like, Bits, Instr}
use Rattle.sqlite_sql.specs.declared.ops.CompareOp.TheVariants.{Eq, Ne, Lt, Le, Gt, Ge}
use Rattle.sqlite_schema.specs.declared.code.Op.{Op}
use Rattle.sqlite_schema.specs.declared.code.Op.TheVariants.{Literal, Column, Unary, Binary, Case}
use Rattle.sqlite_schema.specs.Code.{op_term, term_to, term_in, terms_in}
use Rattle.sb_log.specs.Form.{is_one, is_one_alone, is_id, is_number_one, is_equals, is_one_by, is_one_at, are_one}

pub found : (ops : List Op) (at : ℕ) (op : Op) → slice_get ops at ≡ Some op → slice_index_or ops at (Literal Null) ≡ op
found [] at op is = absurd (cc)
found (x ∷ ops) zero op is = let same : x ≡ op = cc in same
found (x ∷ ops) (suc at) op is = found ops at op is

missing : (ops : List Op) (at : ℕ) → slice_get ops at ≡ None → slice_index_or ops at (Literal Null) ≡ Literal Null
missing [] at is = refl
missing (x ∷ ops) zero is = absurd (cc)
missing (x ∷ ops) (suc at) is = missing ops at is

-- a test that two terms are equal is such a node
record Tests (ops : List Op) (depth at : ℕ) (x y : Term) : Type 0 where
  pub left : ℕ
  pub right : ℕ
  pub is : slice_get ops at ≡ Some (Binary (Compare Eq Bytes) left right)
  pub first : term_to ops depth left ≡ x
  pub second : term_to ops depth right ≡ y

tests : (ops : List Op) (depth at : ℕ) (x y : Term) → term_to ops (suc depth) at ≡ op2 (Compare Eq Bytes) x y → Tests ops depth at x y
tests ops depth at x y e = go (slice_get ops at) refl
  where
    below : (op : Op) → slice_index_or ops at (Literal Null) ≡ op → op_term (term_to ops depth) op ≡ op2 (Compare Eq Bytes) x y
    below op is = sym (ap (op_term (term_to ops depth)) is) ∙ e

    go : (o : Option Op) → slice_get ops at ≡ o → Tests ops depth at x y
    go None is = absurd (let f = below (Literal Null) (missing ops at is) in cc)
    go (Some (Literal v)) is = absurd (let f = below (Literal v) (found ops at (Literal v) is) in cc)
    go (Some (Column slot place)) is = absurd (let f = below (Column slot place) (found ops at (Column slot place) is) in cc)
    go (Some (Unary op a)) is = absurd (let f = below (Unary op a) (found ops at (Unary op a) is) in cc)
    go (Some (Case t a b)) is = absurd (let f = below (Case t a b) (found ops at (Case t a b) is) in cc)
    go (Some (Binary op a b)) is =
        let f = below (Binary op a b) (found ops at (Binary op a b) is) in
        let same : op ≡ Compare Eq Bytes = cc in
        record { left = a; right = b; is = is ∙ ap (λ (o : BinaryOp). Some (Binary o a b)) same; first = cc; second = cc }

column_at : (ops : List Op) (depth at slot place : ℕ) → term_to ops depth at ≡ col slot place → slice_get ops at ≡ Some (Column slot place)
column_at ops zero at slot place e = absurd (cc)
column_at ops (suc depth) at slot place e = go (slice_get ops at) refl
  where
    below : (op : Op) → slice_index_or ops at (Literal Null) ≡ op → op_term (term_to ops depth) op ≡ col slot place
    below op is = sym (ap (op_term (term_to ops depth)) is) ∙ e

    go : (o : Option Op) → slice_get ops at ≡ o → slice_get ops at ≡ Some (Column slot place)
    go None is = absurd (let f = below (Literal Null) (missing ops at is) in cc)
    go (Some (Literal v)) is = absurd (let f = below (Literal v) (found ops at (Literal v) is) in cc)
    go (Some (Column s p)) is = let f = below (Column s p) (found ops at (Column s p) is) in cc
    go (Some (Unary op a)) is = absurd (let f = below (Unary op a) (found ops at (Unary op a) is) in cc)
    go (Some (Case t a b)) is = absurd (let f = below (Case t a b) (found ops at (Case t a b) is) in cc)
    go (Some (Binary op a b)) is = absurd (let f = below (Binary op a b) (found ops at (Binary op a b) is) in cc)

number_at : (ops : List Op) (depth at n : ℕ) → term_to ops depth at ≡ lit (Int (pos n)) → slice_get ops at ≡ Some (Literal (Int (pos n)))
number_at ops zero at n e = absurd (cc)
number_at ops (suc depth) at n e = go (slice_get ops at) refl
  where
    below : (op : Op) → slice_index_or ops at (Literal Null) ≡ op → op_term (term_to ops depth) op ≡ lit (Int (pos n))
    below op is = sym (ap (op_term (term_to ops depth)) is) ∙ e

    go : (o : Option Op) → slice_get ops at ≡ o → slice_get ops at ≡ Some (Literal (Int (pos n)))
    go None is = absurd (let f = below (Literal Null) (missing ops at is) in cc)
    go (Some (Literal v)) is = let f = below (Literal v) (found ops at (Literal v) is) in cc
    go (Some (Column s p)) is = absurd (let f = below (Column s p) (found ops at (Column s p) is) in cc)
    go (Some (Unary op a)) is = absurd (let f = below (Unary op a) (found ops at (Unary op a) is) in cc)
    go (Some (Case t a b)) is = absurd (let f = below (Case t a b) (found ops at (Case t a b) is) in cc)
    go (Some (Binary op a b)) is = absurd (let f = below (Binary op a b) (found ops at (Binary op a b) is) in cc)

-- the nodes of the test are there just where the term is the test
pub one_needs : (ops : List Op) (root : ℕ) → term_in ops root ≡ is_one → is_one_at ops root ≡ true
one_needs ops root e = go (length ops) e
  where
    go : (depth : ℕ) → term_to ops depth root ≡ is_one → is_one_at ops root ≡ true
    go zero e = absurd (cc)
    go (suc depth) e =
        let t = tests ops depth root _ _ e in
        let id : is_id (slice_get ops t.left) ≡ true = ap is_id (column_at ops depth t.left 1 0 t.first) in
        let one : is_number_one (slice_get ops t.right) ≡ true = ap is_number_one (number_at ops depth t.right 1 t.second) in
        ap (is_one_by (slice_get ops)) t.is ∙ (λ i. id i && one i)

-- the parts of a node that is the test
record Parts (ops : List Op) (root : ℕ) : Type 0 where
  pub left : ℕ
  pub right : ℕ
  pub is : slice_get ops root ≡ Some (Binary (Compare Eq Bytes) left right)
  pub first : slice_get ops left ≡ Some (Column 1 0)
  pub second : slice_get ops right ≡ Some (Literal (Int (pos 1)))

id_is : (o : Option Op) → is_id o ≡ true → o ≡ Some (Column 1 0)
id_is None e = absurd (cc)
id_is (Some (Literal v)) e = absurd (cc)
id_is (Some (Unary op a)) e = absurd (cc)
id_is (Some (Case t a b)) e = absurd (cc)
id_is (Some (Binary op a b)) e = absurd (cc)
id_is (Some (Column slot at)) e =
    let both = and_parts _ _ e in
    λ i. Some (Column (eqb-true slot 1 both.0 i) (eqb-true at 0 both.1 i))

one_is : (o : Option Op) → is_number_one o ≡ true → o ≡ Some (Literal (Int (pos 1)))
one_is None e = absurd (cc)
one_is (Some (Column s p)) e = absurd (cc)
one_is (Some (Unary op a)) e = absurd (cc)
one_is (Some (Case t a b)) e = absurd (cc)
one_is (Some (Binary op a b)) e = absurd (cc)
one_is (Some (Literal (Int (pos n)))) e = λ i. Some (Literal (Int (pos (eqb-true n 1 e i))))
one_is (Some (Literal (Int (negsuc n)))) e = absurd (cc)
one_is (Some (Literal Null)) e = absurd (cc)
one_is (Some (Literal (Real x))) e = absurd (cc)
one_is (Some (Literal (Text x))) e = absurd (cc)
one_is (Some (Literal (Blob x))) e = absurd (cc)

equals_is : (op : BinaryOp) → is_equals op ≡ true → op ≡ Compare Eq Bytes
equals_is (Compare Eq Bytes) e = refl
equals_is (Compare Eq NoCase) e = absurd (cc)
equals_is (Compare Eq RTrim) e = absurd (cc)
equals_is (Compare Ne c) e = absurd (cc)
equals_is (Compare Lt c) e = absurd (cc)
equals_is (Compare Le c) e = absurd (cc)
equals_is (Compare Gt c) e = absurd (cc)
equals_is (Compare Ge c) e = absurd (cc)
equals_is (Arith a) e = absurd (cc)
equals_is And e = absurd (cc)
equals_is Or e = absurd (cc)
equals_is (Is c) e = absurd (cc)
equals_is Coalesce e = absurd (cc)
equals_is Like e = absurd (cc)
equals_is (Bits b) e = absurd (cc)
equals_is Instr e = absurd (cc)

parts : (ops : List Op) (root : ℕ) → is_one_at ops root ≡ true → Parts ops root
parts ops root e = go (slice_get ops root) refl e
  where
    go : (o : Option Op) → slice_get ops root ≡ o → is_one_by (slice_get ops) o ≡ true → Parts ops root
    go None is e = absurd (cc)
    go (Some (Literal v)) is e = absurd (cc)
    go (Some (Column s p)) is e = absurd (cc)
    go (Some (Unary op a)) is e = absurd (cc)
    go (Some (Case t a b)) is e = absurd (cc)
    go (Some (Binary op a b)) is e =
        let first = and_parts _ _ e in
        let both = and_parts _ _ first.1 in
        record { left = a; right = b; is = is ∙ ap (λ (o : BinaryOp). Some (Binary o a b)) (equals_is op first.0); first = id_is _ both.0; second = one_is _ both.1 }

deep : (ops : List Op) (p q : ℕ) (x y : Op) → slice_get ops p ≡ Some x → slice_get ops q ≡ Some y → (x ≡ y → ⊥) → 2 ≤ length ops
deep [] p q x y a b apart = absurd (cc)
deep (z ∷ []) zero zero x y a b apart = absurd (apart (let c : z ≡ x = cc in let d : z ≡ y = cc in sym c ∙ d))
deep (z ∷ []) zero (suc q) x y a b apart = absurd (cc)
deep (z ∷ []) (suc p) q x y a b apart = absurd (cc)
deep (z ∷ w ∷ ops) p q x y a b apart = omega arith

pub one_there : (ops : List Op) (root : ℕ) → is_one_at ops root ≡ true → term_in ops root ≡ is_one
one_there ops root e = go (length ops) (deep ops root p.left _ _ p.is p.first (λ f. cc))
  where
    p : Parts ops root
    p = parts ops root e

    go : (depth : ℕ) → 2 ≤ depth → term_to ops depth root ≡ is_one
    go zero low = absurd (omega (arith, low))
    go (suc zero) low = absurd (omega (arith, low))
    go (suc (suc depth)) low =
        ap (op_term (term_to ops (suc depth))) (found ops root _ p.is)
        ∙ (λ i. op2 (Compare Eq Bytes) (op_term (term_to ops depth) (found ops p.left _ p.first i)) (op_term (term_to ops depth) (found ops p.right _ p.second i)))

pub ones_there : (ops : List Op) (roots : List ℕ) → are_one ops roots ≡ true → terms_in ops roots ≡ is_one_alone
ones_there ops [] e = absurd (cc)
ones_there ops (root ∷ []) e = ap (λ (t : Term). t ∷ []) (one_there ops root e)
ones_there ops (root ∷ other ∷ more) e = absurd (cc)

pub ones_needed : (ops : List Op) (roots : List ℕ) → terms_in ops roots ≡ is_one_alone → are_one ops roots ≡ true
ones_needed ops [] e = absurd (cc)
ones_needed ops (root ∷ []) e = one_needs ops root (cc)
ones_needed ops (root ∷ other ∷ more) e = absurd (cc)
