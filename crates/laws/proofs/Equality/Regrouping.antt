-- Sums of any number of summands: every tree is, up to order and grouping, its normal form, and trees that are equal so have one
-- canonical form.
use mathlib.Core.Path.{◌≡◌, refl, sym, ◌∙◌, ap, ap₂}
use mathlib.Core.Bool.{Bool, true, false}
use mathlib.Core.List.{List, [], ◌∷◌, ◌++◌, append_assoc, append-nil, map, Permᴰ}
use Rattle.rules.specs.Bytes.{Text, same, sort}
use Rattle.rules.specs.Tree.{Tree, variable, atom, apply, Trees, none, more, tamtplus}
use Rattle.rules.specs.Sums.{sum, parts, flat, gather, canon, canons}
use Rattle.rules.specs.Equality.{Ac, ACs}
use Rattle.rules.specs.Grouping.{sum_of_all, SameSums, reflexive, symmetric, transitive, congruent, rearranged, AllSameSums, nil, both, Rearranges, later, swap, regroup, sum_of_one}
use Rattle.laws.proofs.Basics.Tests.{same_eq}
use Rattle.laws.proofs.Basics.Order.{sort_same, sort_perm}
use Rattle.laws.proofs.Equality.Normal.{Normal, many, single, trees, tree, pieces, flats, gathered, norm, norms, sort_trees_perm}
use Rattle.laws.proofs.Equality.Rebuilding.{Filled, sort_filled}

-- Any number of rearrangements

data Moves : Trees → Trees → Type 0 where
  still : {ts : Trees} → Moves ts ts
  moved : {ts us : Trees} → Rearranges ts us → Moves ts us
  back : {ts us : Trees} → Moves ts us → Moves us ts
  then : {ts us vs : Trees} → Moves ts us → Moves us vs → Moves ts vs

moves_same : {ts us : Trees} → Moves ts us → SameSums (sum_of_all ts) (sum_of_all us)
moves_same still = reflexive
moves_same (moved r) = rearranged r
moves_same (back m) = symmetric (moves_same m)
moves_same (then m n) = transitive (moves_same m) (moves_same n)

moves_later : {a : Tree} {ts us : Trees} → Moves ts us → Moves (more a ts) (more a us)
moves_later still = still
moves_later (moved r) = moved (later r)
moves_later (back m) = back (moves_later m)
moves_later (then m n) = then (moves_later m) (moves_later n)

of_path : {ts us : Trees} → ts ≡ us → Moves ts us
of_path e = rw e still

-- the order of summands is free
moves_perm : {l m : List Tree} → Permᴰ l m → Moves (trees l) (trees m)
unfolding trees
moves_perm mathlib.Core.List.Permᴰ.nil = still
moves_perm (mathlib.Core.List.Permᴰ.cons {l₁ = l} e p) = then (of_path (ap (λ (t : Tree). more t (trees l)) e)) (moves_later (moves_perm p))
moves_perm (mathlib.Core.List.Permᴰ.swap {l = l} e f) = then (moved swap) (of_path (ap₂ (λ (t u : Tree). more t (more u (trees l))) f e))
moves_perm (mathlib.Core.List.Permᴰ.trans p q) = then (moves_perm p) (moves_perm q)

-- a sum among the summands is its summands
moves_flat : (a : Tree) (l m : List Tree) → Moves (more (sum_of_all (trees (a ∷ l))) (trees m)) (trees ((a ∷ l) ++ m))
unfolding trees
moves_flat a [] m = moved sum_of_one
moves_flat a (b ∷ l) m = then (moved regroup) (moves_later (moves_flat b l m))

-- The normal form

abbrev AllFilled : List Normal → Type 0
AllFilled [] = Unit {0}
AllFilled (c ∷ cs) = Filled (pieces c) × AllFilled cs

gathered_filled : (b : Bool) (n : Text) (cs : List Normal) → AllFilled cs → Filled (pieces (gathered b n cs))
unfolding gathered pieces
gathered_filled b n [] h = (apply n none, [], refl)
gathered_filled true n (c ∷ cs) h = sort_filled (pieces c) (flats cs) h.0
gathered_filled false n (c ∷ cs) h = (apply n (trees (map tree (c ∷ cs))), [], refl)

mutual
  unfolding norm pieces

  norm_filled : (t : Tree) → Filled (pieces (norm t))
  norm_filled (variable x) = (variable x, [], refl)
  norm_filled (atom c d) = (atom c d, [], refl)
  norm_filled (apply n ts) = gathered_filled (same n tamtplus) n (norms ts) (norms_filled ts)

  norms_filled : (ts : Trees) → AllFilled (norms ts)
  norms_filled none = tt
  norms_filled (more t ts) = (norm_filled t, norms_filled ts)

-- the trees of normal forms, and their pieces
moves_pieces : (c : Normal) → Filled (pieces c) → (m : List Tree) → Moves (more (tree c) (trees m)) (trees (pieces c ++ m))
unfolding tree pieces trees
moves_pieces (single t) h m = still
moves_pieces (many l) (t, k, e) m = rw e (moves_flat t k m)

moves_flats : (cs : List Normal) → AllFilled cs → Moves (trees (map tree cs)) (trees (flats cs))
unfolding trees flats
moves_flats [] h = still
moves_flats (c ∷ cs) h = then (moves_later (moves_flats cs h.1)) (moves_pieces c h.0 (flats cs))

gathered_same : (b : Bool) (n : Text) → same n tamtplus ≡ b → (cs : List Normal) → AllFilled cs → SameSums (apply n (trees (map tree cs))) (tree (gathered b n cs))
unfolding gathered tree trees
gathered_same b n e [] h = reflexive
gathered_same true n e (c ∷ cs) h =
    rw (same_eq n tamtplus e) (moves_same (then (moves_flats (c ∷ cs) h) (moves_perm (mathlib.Core.List.Permᴰ.symm (sort_trees_perm (flats (c ∷ cs)))))))
gathered_same false n e (c ∷ cs) h = reflexive

mutual
  unfolding norm tree trees

  pub same_normal : (t : Tree) → SameSums t (tree (norm t))
  same_normal (variable x) = reflexive
  same_normal (atom c d) = reflexive
  same_normal (apply n ts) = transitive (congruent (same_normals ts)) (gathered_same (same n tamtplus) n refl (norms ts) (norms_filled ts))

  same_normals : (ts : Trees) → AllSameSums ts (trees (map tree (norms ts)))
  same_normals none = nil
  same_normals (more t ts) = both (same_normal t) (same_normals ts)

-- One canonical form

swap_front : (l m k : List Text) → Permᴰ (l ++ (m ++ k)) (m ++ (l ++ k))
swap_front l m k = rw (← append_assoc l m k, ← append_assoc m l k) (mathlib.Core.List.Permᴰ.append_right k (mathlib.Core.List.Permᴰ.append_comm l m))

rearranged_flat : {ts us : Trees} → Rearranges ts us → Permᴰ (flat (canons ts)) (flat (canons us))
unfolding canon gather flat parts same
rearranged_flat (later {a = a} r) = mathlib.Core.List.Permᴰ.append_left (parts (canon a)) (rearranged_flat r)
rearranged_flat (swap {a = a} {b = b} {ts = ts}) = swap_front (parts (canon a)) (parts (canon b)) (flat (canons ts))
rearranged_flat (regroup {a = a} {b = b} {bs = bs} {ts = ts}) =
    let x = parts (canon a) in
    let y = flat (canons (more b bs)) in
    let z = flat (canons ts) in
    let p : Permᴰ ((x ++ y) ++ z) (x ++ (sort y ++ z)) = rw (append_assoc x y z) (mathlib.Core.List.Permᴰ.append_left x (mathlib.Core.List.Permᴰ.append_right z (mathlib.Core.List.Permᴰ.symm (sort_perm y)))) in
    mathlib.Core.List.Permᴰ.trans (mathlib.Core.List.Permᴰ.append_right z (sort_perm (x ++ y))) p
rearranged_flat (sum_of_one {a = a} {ts = ts}) =
    let x = parts (canon a) in
    let p : Permᴰ (sort (x ++ [])) x = rw (append-nil x) (sort_perm x) in
    mathlib.Core.List.Permᴰ.append_right (flat (canons ts)) p

-- a list that is rearranged is not empty
left_sum : {ts us : Trees} → Rearranges ts us → canon (sum_of_all ts) ≡ sum (sort (flat (canons ts)))
unfolding canon gather same
left_sum (later r) = refl
left_sum swap = refl
left_sum regroup = refl
left_sum sum_of_one = refl

right_sum : {ts us : Trees} → Rearranges ts us → canon (sum_of_all us) ≡ sum (sort (flat (canons us)))
unfolding canon gather same
right_sum (later r) = refl
right_sum swap = refl
right_sum regroup = refl
right_sum sum_of_one = refl

mutual
  unfolding canon

  pub same_canon : {a b : Tree} → SameSums a b → canon a ≡ canon b
  same_canon reflexive = refl
  same_canon (symmetric h) = sym (same_canon h)
  same_canon (transitive h k) = same_canon h ∙ same_canon k
  same_canon (congruent {f = f} hs) = ap (gather (same f tamtplus) f) (same_canons hs)
  same_canon (rearranged r) = left_sum r ∙ ap sum (sort_same (rearranged_flat r)) ∙ sym (right_sum r)

  same_canons : {ts us : Trees} → AllSameSums ts us → canons ts ≡ canons us
  same_canons nil = refl
  same_canons (both h hs) = let x = same_canon h in let y = same_canons hs in cc

-- Sums of two

mutual
  pub two_same : {a b : Tree} → Ac a b → SameSums a b
  two_same Ac.reflexive = reflexive
  two_same (Ac.symmetric h) = symmetric (two_same h)
  two_same (Ac.transitive h k) = transitive (two_same h) (two_same k)
  two_same (Ac.congruent hs) = congruent (twos_same hs)
  two_same Ac.swap = rearranged swap
  two_same Ac.regroup =
      transitive (transitive (rearranged (later regroup)) (rearranged (later (later sum_of_one))))
      (symmetric (transitive (rearranged regroup) (rearranged (later sum_of_one))))

  twos_same : {ts us : Trees} → ACs ts us → AllSameSums ts us
  twos_same ACs.nil = nil
  twos_same (ACs.both h hs) = both (two_same h) (twos_same hs)
