-- Trees that are Ac equal have one canonical form.
use mathlib.Core.Path.{◌≡◌, refl, sym, ◌∙◌, ap}
use mathlib.Core.List.Permᴰ
use mathlib.Core.List.{List, [], ◌∷◌, ◌++◌, append-nil, append_assoc}
use Rattle.rules.specs.Bytes.{Text, same, sort}
use Rattle.rules.specs.Tree.{Tree, tamtplus, plus}
use Rattle.rules.specs.Sums.{Canonical, sum, parts, flat, gather, canon, canons}
use Rattle.rules.specs.Equality.{Ac}
use Rattle.laws.proofs.Basics.Order.{sort_same, sort_perm}
use Rattle.laws.proofs.Equality.Kept.{kept}

abbrev gathered : Text → List Canonical → Canonical
gathered f cs = gather (same f tamtplus) f cs

gather_two : (x y : Canonical) → gathered tamtplus (x ∷ y ∷ []) ≡ sum (sort (parts x ++ parts y))
unfolding gather same flat
gather_two x y = rw (append-nil (parts y))

pub canon_plus : (a b : Tree) → canon (plus a b) ≡ sum (sort (parts (canon a) ++ parts (canon b)))
unfolding canon
canon_plus a b = gather_two (canon a) (canon b)

gather_swap : (x y : Canonical) → gathered tamtplus (x ∷ y ∷ []) ≡ gathered tamtplus (y ∷ x ∷ [])
gather_swap x y = rw (gather_two x y, gather_two y x) (ap sum (sort_same (Permᴰ.append_comm (parts x) (parts y))))

-- a part of what is sorted may be sorted before
sort_right : (l m : List Text) → sort (l ++ sort m) ≡ sort (l ++ m)
sort_right l m = sort_same (Permᴰ.append_left l (sort_perm m))

sort_left : (l m : List Text) → sort (sort l ++ m) ≡ sort (l ++ m)
sort_left l m = sort_same (Permᴰ.append_right m (sort_perm l))

gather_regroup : (x y z : Canonical) → gathered tamtplus (x ∷ gathered tamtplus (y ∷ z ∷ []) ∷ []) ≡ gathered tamtplus (gathered tamtplus (x ∷ y ∷ []) ∷ z ∷ [])
unfolding parts
gather_regroup x y z =
    let a = parts x in
    let b = parts y in
    let c = parts z in
    rw (gather_two y z, gather_two x y, gather_two x (sum (sort (b ++ c))), gather_two (sum (sort (a ++ b))) z)
    (ap sum (sort_right a (b ++ c) ∙ ap sort (sym (append_assoc a b c)) ∙ sym (sort_left (a ++ b) c)))

pub sound : {a b : Tree} → Ac a b → canon a ≡ canon b
unfolding canon
sound = kept canon canons gathered [] (λ c cs. c ∷ cs) (record {
  at_apply = λ n ts. refl;
  at_none = refl;
  at_more = λ t ts. refl;
  commutes = gather_swap;
  associates = gather_regroup;
})
