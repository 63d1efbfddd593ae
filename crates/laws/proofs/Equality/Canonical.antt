-- Trees as reading builds them are Ac equal exactly where their canonical texts are one.
use mathlib.Core.Path.{◌≡◌, refl, ◌∙◌, ap}
use mathlib.Core.Bool.{true}
use mathlib.Core.List.Permᴰ
use mathlib.Core.List.{List, [], ◌∷◌, ◌++◌, append-nil, map, nil≢cons, cons≢nil, head-eq_of_cons-eq, tail-eq_of_cons-eq, Permᴰ}
use Rattle.rules.specs.Bytes.{same, sort}
use Rattle.rules.specs.Names.{word, variable-token, letter-name}
use Rattle.rules.specs.Tree.{Tree, variable, apply, Trees, none, tamtplus}
use Rattle.rules.specs.Writing.{render}
use Rattle.rules.specs.Sums.{shown, parts, canon, canonical, equivalent}
use Rattle.rules.specs.Equality.{Ac, symmetric, transitive}
use Rattle.rules.specs.Tidy.{Built, a-variable, an-atom, a-leaf, a-list, a_sum, Builts}
use Rattle.laws.proofs.Basics.Tests.{same-eq, same-of-eq}
use Rattle.laws.proofs.Basics.Spelling.{Plain, number-plain, word-plain, variable-plain, token-plain, word-no-variable}
use Rattle.laws.proofs.Equality.Sound.{sound}
use Rattle.laws.proofs.Equality.Texts.{leaf-of, Named, Nameds, render-injective}
use Rattle.laws.proofs.Equality.Normal.{Normal, many, single, trees, tree, pieces, sort-trees, norm, norms, sort-trees-perm, sort-text, pieces-text, tree-text, canon-norm}
use Rattle.laws.proofs.Equality.Rebuilding.{binary, joined, of-path, same_perm, joined_same, whole, AC-normal}

-- the names of a normal tree
plain-sum : Plain tamtplus
unfolding word
plain-sum = word-plain tamtplus refl

named-perm : {l m : List Tree} → Permᴰ l m → Nameds (trees l) → Nameds (trees m)
unfolding trees
named-perm Permᴰ.nil hs = hs
named-perm (Permᴰ.cons e p) (Nameds.both h hs) = Nameds.both (rw e at h) (named-perm p hs)
named-perm (Permᴰ.swap e f) (Nameds.both h (Nameds.both k hs)) = Nameds.both (rw f at k) (Nameds.both (rw e at h) hs)
named-perm (Permᴰ.trans p q) hs = named-perm q (named-perm p hs)

named-append : (l m : List Tree) → Nameds (trees l) → Nameds (trees m) → Nameds (trees (l ++ m))
unfolding trees
named-append [] m hs ks = ks
named-append (t ∷ l) m (Nameds.both h hs) ks = Nameds.both h (named-append l m hs ks)

named-whole : (c : Normal) → Nameds (trees (pieces c)) → Named (tree c)
unfolding trees tree pieces leaf-of variable-token letter-name same
named-whole (many []) hs = Named.leaf {n = tamtplus} plain-sum refl
named-whole (many (t ∷ l)) (Nameds.both h hs) = Named.node plain-sum refl h hs
named-whole (single t) (Nameds.both h hs) = h

mutual
  unfolding norm tree pieces leaf-of trees same

  named : {t : Tree} → Built t → Nameds (trees (pieces (norm t)))
  named (a-variable {x = x} p) = Nameds.both (Named.leaf {t = variable x} {n = x} (variable-plain x p) (rw p)) Nameds.nil
  named (a-leaf {f = f} p) = Nameds.both (Named.leaf {t = apply f none} {n = f} (word-plain f p) (rw (word-no-variable f p))) Nameds.nil
  named (an-atom {d = d} l p) = Nameds.both (Named.atom l (number-plain d p)) Nameds.nil
  named (a-list {f = f} {t = t} p l e h hs) = rw e (Nameds.both (Named.node (token-plain f p) l (named-whole (norm t) (named h)) (nameds hs)) Nameds.nil)
  named (a_sum {a = a} {b = b} h k) =
      named-perm (Permᴰ.symm (sort-trees-perm (pieces (norm a) ++ (pieces (norm b) ++ []))))
      (named-append (pieces (norm a)) (pieces (norm b) ++ []) (named h) (rw (append-nil (pieces (norm b))) (named k)))

  nameds : {ts : Trees} → Builts ts → Nameds (trees (map tree (norms ts)))
  nameds Builts.nil = Nameds.nil
  nameds (Builts.both {t = t} h hs) = Nameds.both (named-whole (norm t) (named h)) (nameds hs)

pub canonical-complete : {a b : Tree} → Built a → Built b → canonical a ≡ canonical b → Ac a b
unfolding canonical
canonical-complete {a} {b} p q e =
    let f : render (tree (norm a)) ≡ render (tree (norm b)) = cc (tree-text (norm a), tree-text (norm b), canon-norm a, canon-norm b) in
    let g = render-injective (named-whole (norm a) (named p)) (named-whole (norm b) (named q)) f in
    transitive (AC-normal p) (transitive (of-path (ap binary g)) (symmetric (AC-normal q)))

pub canonical-sound : {a b : Tree} → Ac a b → canonical a ≡ canonical b
unfolding canonical
canonical-sound h = ap shown (sound h)

-- lists of such trees with the same texts
renders-injective : (l m : List Tree) → Nameds (trees l) → Nameds (trees m) → map render l ≡ map render m → l ≡ m
unfolding trees
renders-injective [] [] hs ks e = refl
renders-injective [] (u ∷ m) hs ks e = absurd (nil≢cons e)
renders-injective (t ∷ l) [] hs ks e = absurd (cons≢nil e)
renders-injective (t ∷ l) (u ∷ m) (Nameds.both h hs) (Nameds.both k ks) e =
    let f = render-injective h k (head-eq_of_cons-eq e) in let g = renders-injective l m hs ks (tail-eq_of_cons-eq e) in cc

pub parts-norm : (t : Tree) → parts (canon t) ≡ map render (pieces (norm t))
parts-norm t = ap parts (canon-norm t) ∙ pieces-text (norm t)

from_pieces : {t : Tree} → Built t → Ac t (joined (map binary (sort-trees (pieces (norm t)))))
from_pieces {t} h =
    transitive (rw (whole (norm t)) at (AC-normal h)) (joined_same (same_perm (Permᴰ.map binary (Permᴰ.symm (sort-trees-perm (pieces (norm t)))))))

-- trees whose summands have the same texts in some order are Ac equal
pub by_parts : {a b : Tree} → Built a → Built b → sort (parts (canon a)) ≡ sort (parts (canon b)) → Ac a b
by_parts {a} {b} p q e =
    let x = pieces (norm a) in
    let y = pieces (norm b) in
    let f : map render (sort-trees x) ≡ map render (sort-trees y) = cc (sort-text x, sort-text y, parts-norm a, parts-norm b) in
    let g : sort-trees x ≡ sort-trees y =
    renders-injective (sort-trees x) (sort-trees y) (named-perm (Permᴰ.symm (sort-trees-perm x)) (named p)) (named-perm (Permᴰ.symm (sort-trees-perm y)) (named q)) f in
    transitive (from_pieces p) (transitive (of-path (ap (λ (l : List Tree). joined (map binary l)) g)) (symmetric (from_pieces q)))

-- the test

pub equivalent-complete : {a b : Tree} → Ac a b → equivalent a b ≡ true
unfolding equivalent
equivalent-complete h = same-of-eq (canonical-sound h)

pub equivalent-sound : {a b : Tree} → Built a → Built b → equivalent a b ≡ true → Ac a b
unfolding equivalent
equivalent-sound {a} {b} p q e = canonical-complete p q (same-eq (canonical a) (canonical b) e)
