-- The words that are written for items are those of the flattened term that they are read as.
use Prim.Native.Nat.{ℕ, zero, suc, ◌+◌, ◌<◌, ◌≤◌}
use mathlib.Core.Path.{◌≡◌, refl, sym, ap, ◌∙◌}
use mathlib.Core.Bool.{Bool, true, false}
use mathlib.Core.List.{List, [], ◌∷◌, ◌++◌, append_assoc, append-nil}
use Rattle.std.specs.Prelude.{Option, Some, None}
use lib.ListN.{length}
use native.Mathlib.Omega.{arith}
use Rattle.rules.specs.Bytes.{Text}
use Rattle.rules.specs.Maybe.{◌>>=◌}
use Rattle.runs.specs.declared.TheConstants.{OPEN, SHUT, COMMA, PLUS}
use Rattle.flattening.specs.declared.brackets.Bracket.{Bracket}
use Rattle.flattening.specs.Terms.{Term, node, Terms, none, more, inner, headed, words, words_each}
use Rattle.flattening.specs.Items.{Item, begin, shut, comma, name, wanting, naming, having, emits, adds, of_sum, in_sum, opening, bracket, closing, all_closed, write}
use Rattle.flattening.proofs.ItemTokens.{Proper, begins, commas, names}
use Rattle.flattening.proofs.ItemTerms.{Read, opened, delimited, item_term, item_list, GoodTerm, good_term}
use Rattle.flattening.specs.Spelling.{flat_by, splice_by, flatten, flattens, splice, splices, term_words, list_words}

-- ---- words in front

pub emits_emits : (l m : List ℕ) (o : Option (List ℕ)) → emits l (emits m o) ≡ emits (l ++ m) o
emits_emits l m None = refl
emits_emits l m (Some n) = ap Some (sym (append_assoc l m n))

-- ---- lists of words with commas

abbrev NonEmpty : List (List ℕ) → Type 0
NonEmpty [] = ⊥
NonEmpty (l ∷ ls) = Unit

inner_append : (l m : List (List ℕ)) → NonEmpty l → NonEmpty m → inner (l ++ m) ≡ inner l ++ (COMMA ∷ inner m)
unfolding inner
inner_append [] m p q = absurd p
inner_append (a ∷ l) [] p q = absurd q
inner_append (a ∷ []) (b ∷ m) p q = refl
inner_append (a ∷ (c ∷ l)) (b ∷ m) p q = ap (λ (r : List ℕ). a ++ (COMMA ∷ r)) (inner_append (c ∷ l) (b ∷ m) tt tt) ∙ sym (append_assoc a (COMMA ∷ inner (c ∷ l)) (COMMA ∷ inner (b ∷ m)))

headed_some : (x : ℕ) (l : List (List ℕ)) → NonEmpty l → headed x l ≡ x ∷ (OPEN ∷ (inner l ++ (SHUT ∷ [])))
unfolding headed
headed_some x [] p = absurd p
headed_some x (l ∷ ls) p = refl

module _ (s : Text) where
  -- ---- summands before others

  abbrev pub each : Terms → List (List ℕ)
  each = words_each

  splice_by_rest : (b : Bool) (x : ℕ) (ts us vs rest : Terms) → each us ≡ each vs ++ each rest → each (splice_by b x ts us rest) ≡ each (splice_by b x ts vs none) ++ each rest
  unfolding words
  splice_by_rest b x none us vs rest e = refl
  splice_by_rest true x (more t ts) us vs rest e = e
  splice_by_rest false x (more t ts) us vs rest e = refl

  mutual
    unfolding flatten words

    splice_rest : (t : Term) (rest : Terms) → each (splice s t rest) ≡ each (splice s t none) ++ each rest
    splice_rest (node x ts) rest = splice_by_rest (adds s x) x (flattens s ts) (splices s ts rest) (splices s ts none) rest (splices_rest ts rest)

    splices_rest : (ts : Terms) (rest : Terms) → each (splices s ts rest) ≡ each (splices s ts none) ++ each rest
    splices_rest none rest = refl
    splices_rest (more t ts) rest =
        splice_rest t (splices s ts rest) ∙ ap (λ (l : List (List ℕ)). each (splice s t none) ++ l) (splices_rest ts rest)
        ∙ sym (append_assoc (each (splice s t none)) (each (splices s ts none)) (each rest))
        ∙ ap (λ (l : List (List ℕ)). l ++ each rest) (sym (splice_rest t (splices s ts none)))

  some_by : (b : Bool) (x : ℕ) (ts us rest : Terms) → (NonEmpty (each ts) → NonEmpty (each us)) → NonEmpty (each (splice_by b x ts us rest))
  unfolding words
  some_by b x none us rest h = tt
  some_by true x (more t ts) us rest h = h tt
  some_by false x (more t ts) us rest h = tt

  mutual
    unfolding flatten words

    splice_some : (t : Term) (rest : Terms) → NonEmpty (each (splice s t rest))
    splice_some (node x ts) rest = some_by (adds s x) x (flattens s ts) (splices s ts rest) rest (λ p. splices_some ts rest p)

    splices_some : (ts rest : Terms) → NonEmpty (each (flattens s ts)) → NonEmpty (each (splices s ts rest))
    splices_some none rest p = absurd p
    splices_some (more t ts) rest p = splice_some t (splices s ts rest)

  -- ---- the words of a term, and of a list, in a sum or not

  pub leaf_words : (b : Bool) (x : ℕ) → term_words s b (node x none) ≡ x ∷ []
  unfolding flatten words headed inner
  leaf_words true x = refl
  leaf_words false x = refl

  pub one_words : (b : Bool) (t : Term) → list_words s b t none ≡ term_words s b t
  unfolding flatten words inner
  one_words true t = refl
  one_words false t = refl

  pub more_words : (b : Bool) (t u : Term) (us : Terms) → list_words s b t (more u us) ≡ term_words s b t ++ (COMMA ∷ list_words s b u us)
  unfolding flatten words inner
  more_words true t u us =
      ap inner (splice_rest t (splice s u (splices s us none)))
      ∙ inner_append (each (splice s t none)) (each (splice s u (splices s us none))) (splice_some t none) (splice_some u (splices s us none))
  more_words false t u us = refl

  -- a name with its list
  pub node_words : (a b : Bool) (x : ℕ) (t : Term) (ts : Terms) → adds s x ≡ a
      → opening (bracket a b) x ++ (list_words s (of_sum (bracket a b)) t ts ++ closing (bracket a b)) ≡ term_words s b (node x (more t ts))
  unfolding flatten words headed inner
  node_words true true x t ts e = append-nil _ ∙ ap (λ (a : Bool). inner (each (splice_by a x (more (flatten s t) (flattens s ts)) (splice s t (splices s ts none)) none))) (sym e)
  node_words true false x t ts e =
      sym (headed_some PLUS (each (splice s t (splices s ts none))) (splice_some t (splices s ts none)))
      ∙ ap (λ (a : Bool). words (flat_by a x (more (flatten s t) (flattens s ts)) (splice s t (splices s ts none)))) (sym e)
  node_words false true x t ts e = ap (λ (a : Bool). inner (each (splice_by a x (more (flatten s t) (flattens s ts)) (splice s t (splices s ts none)) none))) (sym e)
  node_words false false x t ts e = ap (λ (a : Bool). words (flat_by a x (more (flatten s t) (flattens s ts)) (splice s t (splices s ts none)))) (sym e)

  -- ---- what is written, by what is read

  abbrev pub after_term : Read Term → List Bracket → Option (List ℕ)
  after_term o cs = o >>= λ (t, is). emits (term_words s (in_sum cs) t) (write s is having cs)

  abbrev pub after_list : Read (Term × Terms) → Bracket → List Bracket → Option (List ℕ)
  after_list o c cs = o >>= λ ((t, ts), is). emits (list_words s (of_sum c) t ts) (emits (closing c) (write s is having cs))

  node_written : (x : ℕ) (cs : List Bracket) (o : Read (Term × Terms))
      → emits (opening (bracket (adds s x) (in_sum cs)) x) (after_list o (bracket (adds s x) (in_sum cs)) cs) ≡ after_term (o >>= λ ((t, ts), is). Some (node x (more t ts), is)) cs
  node_written x cs None = refl
  node_written x cs (Some ((t, ts), is)) =
      let a = adds s x in
      let b = in_sum cs in
      let l = list_words s (of_sum (bracket a b)) t ts in
      let c = closing (bracket a b) in
      ap (emits (opening (bracket a b) x)) (emits_emits l c (write s is having cs)) ∙ emits_emits (opening (bracket a b) x) (l ++ c) (write s is having cs)
      ∙ ap (λ (m : List ℕ). emits m (write s is having cs)) (node_words a b x t ts refl)

  leaf_written : (x : ℕ) (cs : List Bracket) (o : Option (List ℕ)) → emits (x ∷ []) o ≡ emits (term_words s (in_sum cs) (node x none)) o
  leaf_written x cs o = ap (λ (m : List ℕ). emits m o) (sym (leaf_words (in_sum cs) x))

  -- a name and what follows it
  name_written : (x : ℕ) (is cs : List _) (go : List Item → Read (Term × Terms)) → Proper s is
      → ((js : List Item) (c : Bracket) → Proper s js → length js < length is → write s js wanting (c ∷ cs) ≡ after_list (go js) c cs)
      → write s is (naming x) cs ≡ after_term (opened is (λ ks. go ks >>= λ ((t, ts), ls). Some (node x (more t ts), ls)) (Some (node x none, is))) cs
  unfolding write
  name_written x [] cs go p f = leaf_written x cs (all_closed s cs)
  name_written x (begin ∷ is) cs go (begins p) f =
      ap (emits (opening (bracket (adds s x) (in_sum cs)) x)) (f is (bracket (adds s x) (in_sum cs)) p (omega arith)) ∙ node_written x cs (go is)
  name_written x (shut ∷ is) [] go p f = refl
  name_written x (shut ∷ is) (c ∷ cs) go p f = leaf_written x (c ∷ cs) (emits (closing c) (write s is having cs))
  name_written x (comma ∷ is) [] go p f = refl
  name_written x (comma ∷ is) (c ∷ cs) go p f = leaf_written x (c ∷ cs) (emits (COMMA ∷ []) (write s is wanting (c ∷ cs)))
  name_written x (name y ∷ is) cs go p f = refl

  more_written : (t : Term) (c : Bracket) (cs : List Bracket) (o : Read (Term × Terms))
      → emits (term_words s (of_sum c) t) (emits (COMMA ∷ []) (after_list o c cs)) ≡ after_list (o >>= λ ((u, us), ls). Some ((t, more u us), ls)) c cs
  more_written t c cs None = refl
  more_written t c cs (Some ((u, us), is)) =
      let b = of_sum c in
      let m = emits (closing c) (write s is having cs) in
      emits_emits (term_words s b t) (COMMA ∷ []) (emits (list_words s b u us) m) ∙ emits_emits (term_words s b t ++ (COMMA ∷ [])) (list_words s b u us) m
      ∙ ap (λ (l : List ℕ). emits l m) (append_assoc (term_words s b t) (COMMA ∷ []) (list_words s b u us) ∙ sym (more_words b t u us))

  -- a term of a list and what follows it
  rest_written : (n : ℕ) (c : Bracket) (cs : List Bracket) (go : List Item → Read (Term × Terms)) → ((js : List Item) → Proper s js → length js + 1 < n → write s js wanting (c ∷ cs) ≡ after_list (go js) c cs)
      → (o : Read Term) → GoodTerm s n o → after_term o (c ∷ cs)
      ≡ after_list (o >>= λ (t, js). delimited js (λ ks. go ks >>= λ ((u, us), ls). Some ((t, more u us), ls)) (λ ks. Some ((t, none), ks)) None) c cs
  unfolding write
  rest_written n c cs go f None g = refl
  rest_written n c cs go f (Some (t, [])) g = refl
  rest_written n c cs go f (Some (t, begin ∷ is)) g = refl
  rest_written n c cs go f (Some (t, shut ∷ is)) g = ap (λ (l : List ℕ). emits l (emits (closing c) (write s is having cs))) (sym (one_words (of_sum c) t))
  rest_written n c cs go f (Some (t, comma ∷ is)) (h, commas p, l) =
      ap (λ (o : Option (List ℕ)). emits (term_words s (of_sum c) t) (emits (COMMA ∷ []) o)) (f is p (omega arith)) ∙ more_written t c cs (go is)
  rest_written n c cs go f (Some (t, name x ∷ is)) g = refl

  mutual
    unfolding item_term write

    pub term_written : (k : ℕ) (is cs : List _) → Proper s is → length is ≤ k → write s is wanting cs ≡ after_term (item_term k is) cs
    term_written zero [] cs p l = refl
    term_written zero (i ∷ is) cs p l = absurd (omega arith)
    term_written (suc k) [] cs p l = refl
    term_written (suc k) (begin ∷ is) cs p l = refl
    term_written (suc k) (shut ∷ is) cs p l = refl
    term_written (suc k) (comma ∷ is) cs p l = refl
    term_written (suc k) (name x ∷ is) cs (names h p) l = name_written x is cs (item_list k) p (λ js c q m. list_written k js c cs q (omega arith))

    pub list_written : (k : ℕ) (is : List Item) (c : Bracket) (cs : List Bracket) → Proper s is → length is < k → write s is wanting (c ∷ cs) ≡ after_list (item_list k is) c cs
    list_written zero is c cs p l = absurd (omega arith)
    list_written (suc k) is c cs p l =
        term_written k is (c ∷ cs) p (omega arith)
        ∙ rest_written (length is) c cs (item_list k) (λ js q m. list_written k js c cs q (omega arith)) (item_term k is) (good_term s k is p)
