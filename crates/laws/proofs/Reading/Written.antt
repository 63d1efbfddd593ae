-- Terms as `equal` reads them: the trees that are read, that each reads as itself when it is written out, and that two texts have one
-- canonical text exactly where their trees are equal up to order and grouping of sums.
use mathlib.Core.Path.{◌≡◌, refl, sym, ◌∙◌, ap, subst}
use mathlib.Core.Bool.{Bool, true, false, ◌||◌}
use mathlib.Core.List.Permᴰ
use mathlib.Core.List.{List, [], ◌∷◌, ◌++◌, map, Permᴰ}
use mathlib.Core.Logic.{◌↔◌}
use Rattle.std.specs.Prelude.{Some}
use Rattle.laws.proofs.Basics.Somes.{some_injective}
use native.Mathlib.Omega.{arith}
use Rattle.rules.specs.Bytes.{Text, same}
use Rattle.rules.specs.Names.{word, variable_token}
use Rattle.rules.specs.Tree.{Tree, apply, Trees, more, tamtplus}
use Rattle.rules.specs.Writing.{render}
use Rattle.rules.specs.Sums.{shown, canonical}
use Rattle.rules.specs.Equality.{Ac}
use Rattle.rules.specs.Grouping.{read_written, Written, a_variable, a_leaf, a_list, Writtens, no_more, one_more, SameSums, symmetric, transitive}
use Rattle.rules.specs.Tidy.{Built}
use Rattle.rules.specs.Reading.{as_written, parse, canonical_text}
use Rattle.laws.proofs.Basics.Options.{bound}
use Rattle.laws.proofs.Equality.Normal.{Normal, many, single, trees, tree, pieces, flats, gathered, norm, norms, sort_trees_perm, tree_text, canon_norm}
use Rattle.laws.proofs.Equality.Canonical.{canonical_sound, canonical_complete}
use Rattle.laws.proofs.Equality.Regrouping.{same_normal, same_canon, two_same}
use Rattle.laws.proofs.Reading.Builds.{builds}
use Rattle.laws.proofs.Reading.Closes.{writes}
use Rattle.laws.proofs.Reading.Rereading.{Reads, Continues, reads_variable, reads_leaf, reads_applied, continues_none, continues_more}
use Rattle.laws.proofs.Reading.Lexing.{word_lex, variable_lex}
use Rattle.laws.proofs.Reading.RoundTrip.{Lexes, LexesRest, rest_none, rest_more, lexes_list, whole_read}
use Rattle.laws.proofs.Reading.SameText.{same_text}

-- What is written out

mutual
  pub lexes : {t : Tree} → Written t → Lexes t
  lexes (a_variable {x = x} v) = λ s us e k. variable_lex x s us v e k
  lexes (a_leaf {f = f} w) = λ s us e k. word_lex f s us w e k
  lexes (a_list {f = f} {t = t} {ts = ts} w h hs) = lexes_list f t ts w (lexes h) (lexes_rest hs)

  lexes_rest : {ts : Trees} → Writtens ts → LexesRest ts
  lexes_rest no_more = rest_none
  lexes_rest (one_more {t = t} {ts = ts} h hs) = rest_more t ts (lexes h) (lexes_rest hs)

mutual
  reads : {t : Tree} → Written t → Reads as_written t
  reads (a_variable {x = x} v) = reads_variable as_written x v
  reads (a_leaf {f = f} w) = reads_leaf as_written f w
  reads (a_list {f = f} {t = t} {ts = ts} w h hs) = λ k r m o.
      reads_applied as_written f t (apply f (more t ts)) ts w refl (reads h) (continues hs) k r (omega arith)

  continues : {ts : Trees} → Writtens ts → Continues as_written ts
  continues no_more = continues_none as_written
  continues (one_more {t = t} {ts = ts} h hs) = continues_more as_written t ts (reads h) (continues hs)

pub written_reread : (t : Tree) → Written t → read_written (render t) ≡ Some t
unfolding read_written
written_reread t h = whole_read as_written t (lexes h) (reads h)

-- so two such trees have different texts
one_text : {a b : Tree} → Written a → Written b → render a ≡ render b → a ≡ b
one_text {a} {b} p q e = some_injective a b (sym (written_reread a p) ∙ ap read_written e ∙ written_reread b q)

-- The normal form is such a tree

perm_written : {l m : List Tree} → Permᴰ l m → Writtens (trees l) → Writtens (trees m)
unfolding trees
perm_written Permᴰ.nil hs = hs
perm_written (Permᴰ.cons e p) (one_more h hs) = one_more (rw e at h) (perm_written p hs)
perm_written (Permᴰ.swap e f) (one_more h (one_more k hs)) = one_more (rw f at k) (one_more (rw e at h) hs)
perm_written (Permᴰ.trans p q) hs = perm_written q (perm_written p hs)

append_written : (l m : List Tree) → Writtens (trees l) → Writtens (trees m) → Writtens (trees (l ++ m))
unfolding trees
append_written [] m hs ks = ks
append_written (t ∷ l) m (one_more h hs) ks = one_more h (append_written l m hs ks)

abbrev NormalsWritten : List Normal → Type 0
NormalsWritten [] = Unit {0}
NormalsWritten (c ∷ cs) = Writtens (trees (pieces c)) × NormalsWritten cs

tree_written : (c : Normal) → Writtens (trees (pieces c)) → Written (tree c)
unfolding trees tree pieces word
tree_written (many []) hs = a_leaf refl
tree_written (many (t ∷ l)) (one_more h hs) = a_list refl h hs
tree_written (single t) (one_more h hs) = h

trees_written : (cs : List Normal) → NormalsWritten cs → Writtens (trees (map tree cs))
unfolding trees
trees_written [] h = no_more
trees_written (c ∷ cs) h = one_more (tree_written c h.0) (trees_written cs h.1)

flats_written : (cs : List Normal) → NormalsWritten cs → Writtens (trees (flats cs))
unfolding flats trees
flats_written [] h = no_more
flats_written (c ∷ cs) h = append_written (pieces c) (flats cs) h.0 (flats_written cs h.1)

gathered_written : (b : Bool) (n : Text) → (word n || variable_token n) ≡ true → (c : Normal) (cs : List Normal) → NormalsWritten (c ∷ cs)
    → Writtens (trees (pieces (gathered b n (c ∷ cs))))
unfolding gathered pieces trees
gathered_written true n w c cs h = perm_written (Permᴰ.symm (sort_trees_perm (flats (c ∷ cs)))) (flats_written (c ∷ cs) h)
gathered_written false n w c cs h = one_more (a_list w (tree_written c h.0) (trees_written cs h.1)) no_more

mutual
  unfolding norm trees pieces gathered

  norm_written : {t : Tree} → Written t → Writtens (trees (pieces (norm t)))
  norm_written (a_variable v) = one_more (a_variable v) no_more
  norm_written (a_leaf w) = one_more (a_leaf w) no_more
  norm_written (a_list {f = f} {t = t} {ts = ts} w h hs) = gathered_written (same f tamtplus) f w (norm t) (norms ts) (norm_written h, norms_written hs)

  norms_written : {ts : Trees} → Writtens ts → NormalsWritten (norms ts)
  norms_written no_more = tt
  norms_written (one_more h hs) = (norm_written h, norms_written hs)

-- Canonical texts

pub same_canonical : {a b : Tree} → SameSums a b → canonical a ≡ canonical b
unfolding canonical
same_canonical h = ap shown (same_canon h)

pub canonical_same : {a b : Tree} → Written a → Written b → canonical a ≡ canonical b → SameSums a b
unfolding canonical
canonical_same {a} {b} p q e =
    let f : render (tree (norm a)) ≡ render (tree (norm b)) = cc (tree_text (norm a), tree_text (norm b), canon_norm a, canon_norm b) in
    let g = one_text (tree_written (norm a) (norm_written p)) (tree_written (norm b) (norm_written q)) f in
    transitive (same_normal a) (symmetric (subst (SameSums b) (sym g) (same_normal b)))

-- a text that `equal` reads has the canonical text of its tree, and no other text has one
pub written_text : (s : Text) (t : Tree) → read_written s ≡ Some t → canonical_text s ≡ Some (canonical t)
unfolding canonical_text read_written
written_text s t e = rw e

pub text_written : (s c : Text) → canonical_text s ≡ Some c → (t : Tree) × (read_written s ≡ Some t) × (canonical t ≡ c)
unfolding canonical_text read_written
text_written s c e = let (t, f, g) = bound (read_written s) (λ u. Some (canonical u)) c e in (t, f, some_injective (canonical t) c g)

pub reads_written : (s : Text) → ((t : Tree) × (read_written s ≡ Some t)) ↔ ((c : Text) × (canonical_text s ≡ Some c))
reads_written s = (λ z. (canonical z.0, written_text s z.0 z.1), λ z. let (t, e, f) = text_written s z.0 z.1 in (t, e))

pub written_equality : (s r : Text) (t u : Tree) → read_written s ≡ Some t → read_written r ≡ Some u → SameSums t u ↔ (canonical_text s ≡ canonical_text r)
written_equality s r t u e f = (
  λ h. written_text s t e ∙ ap Some (same_canonical h) ∙ sym (written_text r u f),
  λ h. canonical_same (writes s t e) (writes r u f)
      (some_injective (canonical t) (canonical u) (sym (written_text s t e) ∙ h ∙ written_text r u f)),
)

-- on trees as `parse` builds them it is Ac equality
pub built_equality : {a b : Tree} → Built a → Built b → Ac a b ↔ SameSums a b
built_equality p q = (two_same, λ h. canonical_complete p q (same_canonical h))

-- and between the two readings of texts
pub both_readings : (s r : Text) (t u v w : Tree) → parse s ≡ Some t → parse r ≡ Some u → read_written s ≡ Some v → read_written r ≡ Some w → Ac t u ↔ SameSums v w
both_readings s r t u v w e f g h =
    let p : canonical t ≡ canonical v = some_injective (canonical t) (canonical v) (sym (same_text s t e) ∙ written_text s v g) in
    let q : canonical u ≡ canonical w = some_injective (canonical u) (canonical w) (sym (same_text r u f) ∙ written_text r w h) in (
      λ z. canonical_same (writes s v g) (writes r w h) (sym p ∙ canonical_sound z ∙ q),
      λ z. canonical_complete (builds s t e) (builds r u f) (p ∙ same_canonical z ∙ sym q),
    )
