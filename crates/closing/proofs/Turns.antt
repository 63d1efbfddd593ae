-- The turns of the term reader: what a symbol makes of the machine's state, the trees of a state that stay, and what refuses.
use Prim.Native.Nat.{ℕ, ◌+◌, ◌-◌, ◌≤◌, ◌<◌}
use native.Mathlib.Omega.{arith}
use mathlib.Core.Path.{◌≡◌, refl, sym, ap, ◌∙◌}
use mathlib.Core.List.{List, [], ◌∷◌}
use Rattle.std.specs.Prelude.{Option, Some, None}
use Rattle.laws.proofs.Basics.Somes.{some_injective, none_ne_some}
use mathlib.Core.Bool.{Bool, true, false, cond, not}
use lib.Dec.{leb}
use lib.ListN.{take, drop}
use Rattle.rules.specs.Bytes.{Text, same}
use Rattle.rules.specs.Text.{bytes, is_one_of}
use Rattle.rules.specs.Maybe.{◌>>=◌, guard}
use Rattle.rules.specs.Names.{letter_name}
use Rattle.rules.specs.Tree.{Tree, apply, Trees, none, more, size, sizes, tamtplus}
use Rattle.rules.specs.Tokens.{tokens}
use Rattle.rules.specs.Reading.{leaf, close, single, constant_name, atom_of, nested, sum_of, read_text, parse}
use Rattle.laws.proofs.Basics.Tests.{true_leb, false_leb, neither_left, neither_right, differ_of_ne, ne_of_differ}
use Rattle.laws.proofs.Basics.Options.{bound}
use Rattle.laws.proofs.Reading.Closes.{the_only, the_name}
use Rattle.tree.proofs.Decoding.{size_pos}
use Rattle.sheet.specs.declared.Place.{Place}
use Rattle.syntax.specs.Next.{next_symbol}
use Rattle.syntax.specs.declared.symbols.Symbol.{Symbol}
use Rattle.syntax.specs.declared.symbols.Symbol.TheVariants.{Begin, Shut, Comma, Name, Stop}
use Rattle.syntax.proofs.TokenList.{joined}
use Rattle.syntax.proofs.Meanings.{means_is}
use Rattle.closing.specs.Machine.{Stack, bottom, level, add, back, State, wants, named, has, machine_after, machine_step, finished_stack, machine_end, machine, machine_reading, total}

-- One token

module _ (s : Text) (at to : ℕ) (m : Text) (first : tokens (drop at s) ≡ joined m (tokens (drop to s))) where
  pub turn : (st st' : State) → machine_step st m ≡ Some st' → machine_reading s at st ≡ machine_reading s to st'
  unfolding machine
  turn st st' e = ap (λ (o : Option (List Text)). o >>= λ ts. machine ts st) first ∙ go (tokens (drop to s))
    where
      go : (o : Option (List Text)) → (joined m o >>= λ ts. machine ts st) ≡ (o >>= λ ts. machine ts st')
      go None = refl
      go (Some ts) = ap (λ (x : Option State). x >>= machine ts) e

  pub refused : (st : State) → machine_step st m ≡ None → machine_reading s at st ≡ None
  unfolding machine
  refused st e = ap (λ (o : Option (List Text)). o >>= λ ts. machine ts st) first ∙ go (tokens (drop to s))
    where
      go : (o : Option (List Text)) → (joined m o >>= λ ts. machine ts st) ≡ None
      go None = refl
      go (Some ts) = ap (λ (x : Option State). x >>= machine ts) e

  -- two states that the token makes one
  pub alike : (st st' : State) → machine_step st m ≡ machine_step st' m → machine_reading s at st ≡ machine_reading s at st'
  unfolding machine
  alike st st' e = ap (λ (o : Option (List Text)). o >>= λ ts. machine ts st) first ∙ go (tokens (drop to s)) ∙ sym (ap (λ (o : Option (List Text)). o >>= λ ts. machine ts st') first)
    where
      go : (o : Option (List Text)) → (joined m o >>= λ ts. machine ts st) ≡ (joined m o >>= λ ts. machine ts st')
      go None = refl
      go (Some ts) = ap (λ (x : Option State). x >>= machine ts) e

-- a token that is no mark
record NoMark (n : Text) : Type 0 where
  begin : same (bytes "(") n ≡ false
  shut : same (bytes ")") n ≡ false
  comma : same (bytes ",") n ≡ false

no_mark : (n : Text) → is_one_of (bytes "(" ∷ bytes ")" ∷ bytes "," ∷ []) n ≡ false → NoMark n
unfolding is_one_of
no_mark n e =
    let f = neither_right (same n (bytes "(")) _ e in
    let g = neither_right (same n (bytes ")")) _ f in
    record {
      begin = swap (bytes "(") (neither_left (same n (bytes "(")) _ e);
      shut = swap (bytes ")") (neither_left (same n (bytes ")")) _ f);
      comma = swap (bytes ",") (neither_left (same n (bytes ",")) _ g);
    }
  where
    swap : (m : Text) → same n m ≡ false → same m n ≡ false
    swap m h = differ_of_ne {x = m} {y = n} (λ p. ne_of_differ {x = n} {y = m} h (sym p))

not_given : (k : Stack) (n : Text) → same (bytes ",") n ≡ false → same (bytes ")") n ≡ false → machine_after k n ≡ None
not_given (bottom ts) n a b = refl
not_given (level m ts k) n a b = rw (a, b)

-- The next symbol

module _ (s : Text) (at : ℕ) {r : Symbol} (e : Some r ≡ next_symbol s at) where
  pub name_turn : (p : Place) (k : Stack) → r ≡ Name p → machine_reading s at (wants k) ≡ machine_reading s p.to (named (take (p.to - p.from) (drop p.from s)) k)
  name_turn p k q =
      let m = means_is s at e (Some (Name p)) (ap Some q) in
      turn s at p.to (take (p.to - p.from) (drop p.from s)) m.first (wants k) (named (take (p.to - p.from) (drop p.from s)) k) (rw m.no_mark)

  pub open_turn : (t : ℕ) (n : Text) (k : Stack) → r ≡ Begin t → machine_reading s at (named n k) ≡ machine_reading s t (wants (level n none k))
  unfolding same
  open_turn t n k q = turn s at t (bytes "(") (means_is s at e (Some (Begin t)) (ap Some q)).first (named n k) (wants (level n none k)) refl

  pub comma_turn : (t : ℕ) (n : Text) (ts : Trees) (k : Stack) → r ≡ Comma t → machine_reading s at (has (level n ts k)) ≡ machine_reading s t (wants (level n ts k))
  unfolding same
  comma_turn t n ts k q = turn s at t (bytes ",") (means_is s at e (Some (Comma t)) (ap Some q)).first (has (level n ts k)) (wants (level n ts k)) refl

  pub shut_turn : (t : ℕ) (n : Text) (ts : Trees) (k : Stack) (u : Tree) → r ≡ Shut t → close n (back ts none) ≡ Some u → machine_reading s at (has (level n ts k)) ≡ machine_reading s t (has (add u k))
  unfolding same
  shut_turn t n ts k u q c =
      turn s at t (bytes ")") (means_is s at e (Some (Shut t)) (ap Some q)).first (has (level n ts k)) (has (add u k)) (ap (λ (o : Option Tree). o >>= λ t. Some (has (add t k))) c)

  pub shut_none : (t : ℕ) (n : Text) (ts : Trees) (k : Stack) → r ≡ Shut t → close n (back ts none) ≡ None → machine_reading s at (has (level n ts k)) ≡ None
  unfolding same
  shut_none t n ts k q c = refused s at t (bytes ")") (means_is s at e (Some (Shut t)) (ap Some q)).first (has (level n ts k)) (ap (λ (o : Option Tree). o >>= λ t. Some (has (add t k))) c)

  pub comma_bare : (t : ℕ) (ts : Trees) → r ≡ Comma t → machine_reading s at (has (bottom ts)) ≡ None
  comma_bare t ts q = refused s at t (bytes ",") (means_is s at e (Some (Comma t)) (ap Some q)).first (has (bottom ts)) refl

  pub shut_bare : (t : ℕ) (ts : Trees) → r ≡ Shut t → machine_reading s at (has (bottom ts)) ≡ None
  shut_bare t ts q = refused s at t (bytes ")") (means_is s at e (Some (Shut t)) (ap Some q)).first (has (bottom ts)) refl

  pub stop_turn : (st : State) → r ≡ Stop → machine_reading s at st ≡ machine_end st
  unfolding machine
  stop_turn st q = ap (λ (o : Option (List Text)). o >>= λ ts. machine ts st) (means_is s at e (Some Stop) (ap Some q))

  -- where a branch is left to several variants
  pub not_name : (k : Stack) → ((p : Place) → r ≡ Name p → ⊥) → machine_reading s at (wants k) ≡ None
  unfolding is_one_of same machine
  not_name k o = go r refl
    where
      go : (q : Symbol) → r ≡ q → machine_reading s at (wants k) ≡ None
      go (Begin t) q = refused s at t (bytes "(") (means_is s at e (Some (Begin t)) (ap Some q)).first (wants k) refl
      go (Shut t) q = refused s at t (bytes ")") (means_is s at e (Some (Shut t)) (ap Some q)).first (wants k) refl
      go (Comma t) q = refused s at t (bytes ",") (means_is s at e (Some (Comma t)) (ap Some q)).first (wants k) refl
      go (Name p) q = absurd (o p q)
      go Stop q = stop_turn (wants k) q

  pub no_delimiter : (k : Stack) → (r ≡ Stop → ⊥) → ((t : ℕ) → r ≡ Comma t → ⊥) → ((t : ℕ) → r ≡ Shut t → ⊥) → machine_reading s at (has k) ≡ None
  unfolding machine same
  no_delimiter k no_stop no_comma no_shut = go r refl
    where
      go : (q : Symbol) → r ≡ q → machine_reading s at (has k) ≡ None
      go (Begin t) q = refused s at t (bytes "(") (means_is s at e (Some (Begin t)) (ap Some q)).first (has k) (not_given k (bytes "(") refl refl)
      go (Shut t) q = absurd (no_shut t q)
      go (Comma t) q = absurd (no_comma t q)
      go (Name p) q =
          let m = means_is s at e (Some (Name p)) (ap Some q) in
          let h = no_mark (take (p.to - p.from) (drop p.from s)) m.no_mark in
          refused s at p.to (take (p.to - p.from) (drop p.from s)) m.first (has k) (not_given k (take (p.to - p.from) (drop p.from s)) h.comma h.shut)
      go Stop q = absurd (no_stop q)

  -- a name that no bracket follows is a leaf
  pub leaf_turn : (n : Text) (k : Stack) → ((t : ℕ) → r ≡ Begin t → ⊥) → machine_reading s at (named n k) ≡ machine_reading s at (has (add (leaf n) k))
  unfolding machine same
  leaf_turn n k o = go r refl
    where
      go : (q : Symbol) → r ≡ q → machine_reading s at (named n k) ≡ machine_reading s at (has (add (leaf n) k))
      go (Begin t) q = absurd (o t q)
      go (Shut t) q = alike s at t (bytes ")") (means_is s at e (Some (Shut t)) (ap Some q)).first (named n k) (has (add (leaf n) k)) refl
      go (Comma t) q = alike s at t (bytes ",") (means_is s at e (Some (Comma t)) (ap Some q)).first (named n k) (has (add (leaf n) k)) refl
      go (Name p) q =
          let m = means_is s at e (Some (Name p)) (ap Some q) in
          alike s at p.to (take (p.to - p.from) (drop p.from s)) m.first (named n k) (has (add (leaf n) k)) (rw (no_mark (take (p.to - p.from) (drop p.from s)) m.no_mark).begin)
      go Stop q = stop_turn (named n k) q ∙ sym (stop_turn (has (add (leaf n) k)) q)

-- no symbol
pub no_symbol : (s : Text) (at : ℕ) (st : State) → None ≡ next_symbol s at → machine_reading s at st ≡ None
unfolding machine
no_symbol s at st e = ap (λ (o : Option (List Text)). o >>= λ ts. machine ts st) (means_is s at e None refl)

-- The nodes of a stack are in the term that is read

nested_size : (t : Tree) (us : Trees) → size t + sizes us ≤ size (nested t us)
unfolding nested size
nested_size t none = omega arith
nested_size t (more u us) = let h = nested_size u us in omega arith

pub close_size : (n : Text) (ts : Trees) (t : Tree) → close n ts ≡ Some t → sizes ts ≤ size t
unfolding close atom_of sum_of size
close_size n ts t h = go (letter_name n) (same n tamtplus) h
  where
    atoms : atom_of n ts ≡ Some t → sizes ts ≤ size t
    atoms k =
        let (u, e, k₁) = bound (single ts) _ t k in
        let (d, f, k₂) = bound (constant_name u) _ t k₁ in
        let p : sizes ts ≡ size u + 0 = ap sizes (the_only ts u e) in
        let q : size u ≡ 1 = ap size (the_name u d f) in
        omega (arith, size_pos t)

    sums : (ts : Trees) → sum_of ts ≡ Some t → sizes ts ≤ size t
    sums none k = absurd (none_ne_some t k)
    sums (more a none) k = absurd (none_ne_some t k)
    sums (more a (more b us)) k =
        let e : size (nested a (more b us)) ≡ size t = ap size (some_injective (nested a (more b us)) t k) in
        omega (arith, nested_size a (more b us))

    go : (b c : Bool) → elim b [ true ↦ atom_of n ts | false ↦ elim c [ true ↦ sum_of ts | false ↦ Some (apply n ts) ] ] ≡ Some t → sizes ts ≤ size t
    go true c k = atoms k
    go false true k = sums ts k
    go false false k = let e : 1 + sizes ts ≡ size t = ap size (some_injective (apply n ts) t k) in omega arith

pub back_sizes : (ts us : Trees) → sizes (back ts us) ≡ sizes ts + sizes us
unfolding back size
back_sizes none us = omega arith
back_sizes (more t ts) us = let h = back_sizes ts (more t us) in omega arith

add_total : (t : Tree) (k : Stack) → total (add t k) ≡ size t + total k
unfolding size
add_total t (bottom ts) = refl
add_total t (level n ts k) = omega arith

abbrev held : State → ℕ
held (wants k) = total k
held (named n k) = total k
held (has k) = total k

given_grows : (k : Stack) (x : Text) (st : State) → machine_after k x ≡ Some st → total k ≤ held st
unfolding size
given_grows (bottom ts) x st h = absurd (none_ne_some st h)
given_grows (level n ts k) x st h = go (same (bytes ",") x) (same (bytes ")") x) h
  where
    go : (b c : Bool) → cond b (Some (wants (level n ts k))) (cond c (close n (back ts none) >>= λ t. Some (has (add t k))) None) ≡ Some st → sizes ts + total k ≤ held st
    go true c g = let e = ap held (some_injective _ st g) in omega arith
    go false true g =
        let (t, e, f) = bound (close n (back ts none)) _ st g in
        let p = ap held (some_injective _ st f) in
        omega (arith, close_size n (back ts none) t e, back_sizes ts none, add_total t k)
    go false false g = absurd (none_ne_some st g)

step_grows : (st st' : State) (x : Text) → machine_step st x ≡ Some st' → held st ≤ held st'
unfolding size
step_grows (wants k) st x h =
    let (u, e, f) = bound (guard (not (is_one_of (bytes "(" ∷ bytes ")" ∷ bytes "," ∷ []) x))) _ st h in
    let p = ap held (some_injective _ st f) in
    omega arith
step_grows (named n k) st x h = go (same (bytes "(") x) h
  where
    go : (b : Bool) → cond b (Some (wants (level n none k))) (machine_after (add (leaf n) k) x) ≡ Some st → total k ≤ held st
    go true g = let p = ap held (some_injective _ st g) in omega arith
    go false g = omega (arith, given_grows (add (leaf n) k) x st g, add_total (leaf n) k)
step_grows (has k) st x h = given_grows k x st h

ended_size : (k : Stack) (t : Tree) → finished_stack k ≡ Some t → total k ≤ size t
unfolding size
ended_size (bottom ts) t h = let e : sizes ts ≡ size t + 0 = ap sizes (the_only ts t h) in omega arith
ended_size (level n ts k) t h = absurd (none_ne_some t h)

machine_size : (ts : List Text) (st : State) (t : Tree) → machine ts st ≡ Some t → held st ≤ size t
unfolding machine
machine_size [] (wants k) t h = absurd (none_ne_some t h)
machine_size [] (named n k) t h = omega (arith, ended_size (add (leaf n) k) t h, add_total (leaf n) k)
machine_size [] (has k) t h = ended_size k t h
machine_size (x ∷ ts) st t h =
    let (st', e, f) = bound (machine_step st x) (machine ts) t h in
    let p = step_grows st st' x e in
    let q = machine_size ts st' t f in
    omega arith

-- Within the limit of nodes

abbrev pub limited : Option Tree → Option Tree
limited o = o >>= λ t. guard (leb (size t) 4096) >>= λ _. Some t

over : (o : Option Tree) → ((t : Tree) → o ≡ Some t → 4096 < size t) → limited o ≡ None
over None h = refl
over (Some t) h = ap (λ (b : Bool). guard b >>= λ _. Some t) (false_leb (size t) 4096 (h t refl))

pub too_big : (s : Text) (at : ℕ) (k : Stack) → 4096 < total k → limited (machine_reading s at (has k)) ≡ None
too_big s at k h = go (tokens (drop at s))
  where
    go : (o : Option (List Text)) → limited (o >>= λ ts. machine ts (has k)) ≡ None
    go None = refl
    go (Some ts) = over (machine ts (has k)) (λ t e. (let p = machine_size ts (has k) t e in omega arith))

pub small_enough : (t : Tree) → size t ≤ 4096 → limited (Some t) ≡ Some t
small_enough t h = ap (λ (b : Bool). guard b >>= λ _. Some t) (true_leb (size t) 4096 h)

-- a list that closes as nothing, or as too large a tree
pub shut_out : (s : Text) (at : ℕ) {r : Symbol} → Some r ≡ next_symbol s at → (t : ℕ) (n : Text) (ts : Trees) (k : Stack) → r ≡ Shut t
    → ((u : Tree) → close n (back ts none) ≡ Some u → 4096 < size u) → limited (machine_reading s at (has (level n ts k))) ≡ None
shut_out s at e t n ts k q h = go (close n (back ts none)) refl
  where
    go : (o : Option Tree) → close n (back ts none) ≡ o → limited (machine_reading s at (has (level n ts k))) ≡ None
    go None f = ap limited (shut_none s at e t n ts k q f)
    go (Some u) f = ap limited (shut_turn s at e t n ts k u q f) ∙ too_big s t (add u k) (omega (arith, h u f, add_total u k))

pub parse_limited : (s : Text) → parse s ≡ limited (read_text close s)
unfolding parse
parse_limited s = refl
