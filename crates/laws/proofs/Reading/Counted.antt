-- The Rust's counter never refuses a text that reads: it goes up by at most two for each node of the tree.
use Prim.Native.Nat.{ℕ, zero, suc, ◌+◌, ◌*◌, ◌≤◌, ◌<◌}
use native.Mathlib.Omega.{arith}
use mathlib.Core.Path.{◌≡◌, refl, sym, ap}
use mathlib.Core.List.{List, [], ◌∷◌}
use Rattle.std.specs.Prelude.{Option, Some, None}
use Rattle.laws.proofs.Basics.Somes.{some_injective, none_ne_some}
use mathlib.Core.Bool.{Bool, true, false, cond, not}
use lib.Dec.{eqb, leb}
use lib.ListN.{length, get_or}
use Rattle.rules.specs.Bytes.{Text, same}
use Rattle.rules.specs.Text.{bytes, count_of}
use Rattle.rules.specs.Maybe.{◌>>=◌, guard}
use Rattle.rules.specs.Names.{digit, all, letter_name}
use Rattle.rules.specs.Tree.{Tree, variable, atom, apply, Trees, none, more, size, sizes, tamtplus}
use Rattle.rules.specs.Tokens.{tokens}
use Rattle.rules.specs.Reading.{leaf, single, constant_name, atom_of, nested, sum_of, close, after_token, wholly, read_term, read_list, read_text, parse}
use Rattle.rules.specs.Counting.{count_term, count_list, parse_counted}
use Rattle.laws.proofs.Basics.Tests.{leb_false, false_leb}
use Rattle.laws.proofs.Basics.Options.{bound}
use Rattle.laws.proofs.Reading.Closes.{the_only, the_name}
use Rattle.laws.proofs.Reading.TokenKinds.{is_mark}

-- the most that the counter goes up where a tree is read
abbrev mutual
  most : Tree → ℕ
  most (variable x) = 1
  most (atom c d) = 2
  most (apply f ts) = 1 + most_in ts

  most_in : Trees → ℕ
  most_in none = 0
  most_in (more t ts) = most t + most_in ts

mutual
  unfolding size

  most_size : (t : Tree) → most t ≤ 2 * size t
  most_size (variable x) = omega arith
  most_size (atom c d) = omega arith
  most_size (apply f ts) = let h = most_sizes ts in omega arith

  most_sizes : (ts : Trees) → most_in ts ≤ 2 * sizes ts
  most_sizes none = omega arith
  most_sizes (more t ts) = let h = most_size t in let k = most_sizes ts in omega arith

-- Closing a list counts one

atom_most : (n : Text) (ts : Trees) (t : Tree) → atom_of n ts ≡ Some t → 1 + most_in ts ≤ most t
unfolding atom_of
atom_most n ts t h =
    let (u, e, h₁) = bound (single ts) _ t h in
    let (d, k, h₂) = bound (constant_name u) _ t h₁ in
    let (x, g, h₃) = bound (guard (all digit d)) (λ _. Some (atom (get_or n 0 0) d)) t h₂ in
    let p : most_in ts ≡ most u + 0 = ap most_in (the_only ts u e) in
    let q : most u ≡ 1 = ap most (the_name u d k) in
    let r : 2 ≡ most t = ap most (some_injective (atom (get_or n 0 0) d) t h₃) in
    omega arith

nested_most : (t : Tree) (us : Trees) → most t + most_in us ≤ most (nested t us)
unfolding nested
nested_most t none = omega arith
nested_most t (more u us) = let h = nested_most u us in omega arith

sum_most : (ts : Trees) (t : Tree) → sum_of ts ≡ Some t → 1 + most_in ts ≤ most t
unfolding sum_of nested
sum_most none t h = absurd (none_ne_some t h)
sum_most (more a none) t h = absurd (none_ne_some t h)
sum_most (more a (more b us)) t h =
    let k = nested_most b us in
    let e : most (nested a (more b us)) ≡ most t = ap most (some_injective (nested a (more b us)) t h) in
    omega arith

close_most : (n : Text) (ts : Trees) (t : Tree) → close n ts ≡ Some t → 1 + most_in ts ≤ most t
unfolding close
close_most n ts t h = go (letter_name n) (same n tamtplus) h
  where
    go : (b c : Bool) → elim b [ true ↦ atom_of n ts | false ↦ elim c [ true ↦ sum_of ts | false ↦ Some (apply n ts) ] ] ≡ Some t → 1 + most_in ts ≤ most t
    go true c k = atom_most n ts t k
    go false true k = sum_most ts t k
    go false false k = let e : 1 + most_in ts ≡ most t = ap most (some_injective (apply n ts) t k) in omega arith

leaf_most : (n : Text) → most (leaf n) ≡ 1
unfolding leaf
leaf_most n = go (eqb (count_of 58 n) 0)
  where
    go : (b : Bool) → most (cond b (apply n none) (variable n)) ≡ 1
    go true = refl
    go false = refl

-- Both readings, from a counter: the same, or the counter refuses what takes it over its limit
data Follows {A : Type 0} (weight : A → ℕ) (nodes : ℕ) : Option (A × ℕ × List Text) → Option (A × List Text) → Type 0 where
  neither_reads : Follows weight nodes None None
  both_read : {a : A} {all : ℕ} {ts : List Text} → all ≤ nodes + weight a → Follows weight nodes (Some (a, all, ts)) (Some (a, ts))
  over : {a : A} {ts : List Text} → 8192 < nodes + weight a → Follows weight nodes None (Some (a, ts))

abbrev Term : Type 0
Term = Tree × List Text

abbrev Listed : Type 0
Listed = Trees × List Text

abbrev CountedTerm : Type 0
CountedTerm = Tree × ℕ × List Text

abbrev CountedList : Type 0
CountedList = Trees × ℕ × List Text

closed : (n : Text) (nodes : ℕ) {o : Option CountedList} {r : Option Listed} → Follows most_in nodes o r
    → Follows most nodes (o >>= λ q. guard (leb (suc q.1) 8192) >>= λ _. close n q.0 >>= λ t. Some (t, suc q.1, q.2))
    (r >>= λ q. close n q.0 >>= λ t. Some (t, q.1))
closed n nodes neither_reads = neither_reads
closed n nodes (both_read {a} {all} {ts} h) = go (leb (suc all) 8192) (close n a) refl refl
  where
    go : (b : Bool) (o : Option Tree) → leb (suc all) 8192 ≡ b → close n a ≡ o
        → Follows most nodes (guard b >>= λ _. o >>= λ t. Some (t, suc all, ts)) (o >>= λ t. Some (t, ts))
    go true None e f = neither_reads
    go true (Some t) e f = let k = close_most n a t f in let l : suc all ≤ nodes + most t = omega arith in both_read l
    go false None e f = neither_reads
    go false (Some t) e f =
        let k = close_most n a t f in
        let m = leb_false (suc all) 8192 e in
        let l : 8192 < nodes + most t = omega arith in
        over l
closed n nodes (over {a} {ts} h) = go (close n a) refl
  where
    go : (o : Option Tree) → close n a ≡ o → Follows most nodes None (o >>= λ t. Some (t, ts))
    go None f = neither_reads
    go (Some t) f = let k = close_most n a t f in let l : 8192 < nodes + most t = omega arith in over l

named : (n : Text) (nodes : ℕ) (ts : List Text) (go : List Text → Option CountedList) (go' : List Text → Option Listed)
    → ((us : List Text) → Follows most_in nodes (go us) (go' us)) → (o : Option (List Text))
    → Follows most nodes
    (elim o [ None ↦ Some (leaf n, suc nodes, ts) | Some us ↦ go us >>= λ q. guard (leb (suc q.1) 8192) >>= λ _. close n q.0 >>= λ t. Some (t, suc q.1, q.2) ])
    (elim o [ None ↦ Some (leaf n, ts) | Some us ↦ go' us >>= λ q. close n q.0 >>= λ t. Some (t, q.1) ])
named n nodes ts go go' ih None = let h = leaf_most n in let l : suc nodes ≤ nodes + most (leaf n) = omega arith in both_read l
named n nodes ts go go' ih (Some us) = closed n nodes (ih us)

guarded_both : (b : Bool) {nodes : ℕ} {o : Option CountedTerm} {r : Option Term} → Follows most nodes o r
    → Follows most nodes (guard b >>= λ _. o) (guard b >>= λ _. r)
guarded_both true f = f
guarded_both false f = neither_reads

-- the rest of a list after a term of it
joined : (t : Tree) (nodes first : ℕ) {o : Option CountedList} {r : Option Listed} → first ≤ nodes + most t → Follows most_in first o r
    → Follows most_in nodes (o >>= λ q. Some (more t q.0, q.1, q.2)) (r >>= λ q. Some (more t q.0, q.1))
joined t nodes first h neither_reads = neither_reads
joined t nodes first h (both_read {a} {all} {ts} k) = let l : all ≤ nodes + (most t + most_in a) = omega arith in both_read l
joined t nodes first h (over {a} {ts} k) = let l : 8192 < nodes + (most t + most_in a) = omega arith in over l

alone : (t : Tree) (nodes first : ℕ) → first ≤ nodes + most t → (o : Option (List Text))
    → Follows most_in nodes (o >>= λ vs. Some (more t none, first, vs)) (o >>= λ vs. Some (more t none, vs))
alone t nodes first h None = neither_reads
alone t nodes first h (Some vs) = let l : first ≤ nodes + (most t + 0) = omega arith in both_read l

-- what is read of a list after a term that took the counter over its limit
lost : (t : Tree) (nodes : ℕ) → 8192 < nodes + most t → (r : Option Listed) → Follows most_in nodes None (r >>= λ q. Some (more t q.0, q.1))
lost t nodes h None = neither_reads
lost t nodes h (Some (rest, ts)) = let l : 8192 < nodes + (most t + most_in rest) = omega arith in over l

lost_alone : (t : Tree) (nodes : ℕ) → 8192 < nodes + most t → (o : Option (List Text)) → Follows most_in nodes None (o >>= λ vs. Some (more t none, vs))
lost_alone t nodes h None = neither_reads
lost_alone t nodes h (Some vs) = let l : 8192 < nodes + (most t + 0) = omega arith in over l

listing : (nodes : ℕ) (go : ℕ → List Text → Option CountedList) (go' : List Text → Option Listed)
    → ((first : ℕ) (us : List Text) → Follows most_in first (go first us) (go' us)) → {o : Option CountedTerm} {r : Option Term} → Follows most nodes o r
    → Follows most_in nodes
    (o >>= λ p. elim (after_token (bytes ",") p.2) [
      | Some vs ↦ go p.1 vs >>= λ q. Some (more p.0 q.0, q.1, q.2)
      | None ↦ after_token (bytes ")") p.2 >>= λ vs. Some (more p.0 none, p.1, vs)
    ])
    (r >>= λ p. elim (after_token (bytes ",") p.1) [
      | Some vs ↦ go' vs >>= λ q. Some (more p.0 q.0, q.1)
      | None ↦ after_token (bytes ")") p.1 >>= λ vs. Some (more p.0 none, vs)
    ])
listing nodes go go' ih neither_reads = neither_reads
listing nodes go go' ih (both_read {a = t} {all = first} {ts} h) = turn (after_token (bytes ",") ts)
  where
    turn : (o : Option (List Text)) → Follows most_in nodes
        (elim o [ Some vs ↦ go first vs >>= λ q. Some (more t q.0, q.1, q.2) | None ↦ after_token (bytes ")") ts >>= λ vs. Some (more t none, first, vs) ])
        (elim o [ Some vs ↦ go' vs >>= λ q. Some (more t q.0, q.1) | None ↦ after_token (bytes ")") ts >>= λ vs. Some (more t none, vs) ])
    turn (Some vs) = joined t nodes first h (ih first vs)
    turn None = alone t nodes first h (after_token (bytes ")") ts)
listing nodes go go' ih (over {a = t} {ts} h) = turn (after_token (bytes ",") ts)
  where
    turn : (o : Option (List Text)) → Follows most_in nodes None
        (elim o [ Some vs ↦ go' vs >>= λ q. Some (more t q.0, q.1) | None ↦ after_token (bytes ")") ts >>= λ vs. Some (more t none, vs) ])
    turn (Some vs) = lost t nodes h (go' vs)
    turn None = lost_alone t nodes h (after_token (bytes ")") ts)

mutual
  unfolding read_term count_term

  term_follows : (k nodes : ℕ) (ts : List Text) → Follows most nodes (count_term k nodes ts) (read_term close k ts)
  term_follows zero nodes ts = neither_reads
  term_follows (suc k) nodes [] = neither_reads
  term_follows (suc k) nodes (n ∷ ts) =
      guarded_both (not (is_mark n)) (named n nodes ts (count_list k nodes) (read_list close k) (λ us. list_follows k nodes us) (after_token (bytes "(") ts))

  list_follows : (k nodes : ℕ) (ts : List Text) → Follows most_in nodes (count_list k nodes ts) (read_list close k ts)
  list_follows zero nodes ts = neither_reads
  list_follows (suc k) nodes ts = listing nodes (count_list k) (read_list close k) (λ first us. list_follows k first us) (term_follows k nodes ts)

-- within the limit of nodes
abbrev limited : Option Tree → Option Tree
limited o = o >>= λ t. guard (leb (size t) 4096) >>= λ _. Some t

whole : {o : Option CountedTerm} {r : Option Term} → Follows most 0 o r → (o >>= λ p. limited (wholly (Some (p.0, p.2)))) ≡ limited (wholly r)
whole neither_reads = refl
whole (both_read h) = refl
whole (over {a = t} {ts} h) = go ts
  where
    go : (us : List Text) → None ≡ limited (wholly (Some (t, us)))
    go [] = let k = most_size t in sym (ap (λ (b : Bool). guard b >>= λ _. Some t) (false_leb (size t) 4096 (omega arith)))
    go (u ∷ us) = refl

pub counted : (s : Text) → parse_counted s ≡ parse s
unfolding parse_counted parse read_text
counted s = go (tokens s)
  where
    go : (o : Option (List Text))
        → (o >>= λ ts. count_term (length ts) 0 ts >>= λ p. limited (wholly (Some (p.0, p.2)))) ≡ limited (o >>= λ ts. wholly (read_term close (length ts) ts))
    go None = refl
    go (Some ts) = whole (term_follows (length ts) 0 ts)
