-- Items read as terms: a term of items is the tree that reading gives, and the words that are written are those of the term with
-- its sums flattened.
use Prim.Native.Nat.{ℕ, zero, suc, ◌<◌}
use mathlib.Core.Path.{◌≡◌, refl, ap, ◌∙◌}
use mathlib.Core.Bool.{Bool, true, false, not, ◌||◌}
use mathlib.Core.List.{List, [], ◌∷◌, map}
use Rattle.std.specs.Prelude.{Option, Some, None}
use lib.ListN.{length}
use native.Mathlib.Omega.{arith}
use Rattle.rules.specs.Bytes.{Text, same}
use Rattle.rules.specs.Text.{bytes, is_one_of}
use Rattle.rules.specs.Maybe.{◌>>=◌, guard}
use Rattle.rules.specs.Tree.{Tree, apply, Trees}
use Rattle.rules.specs.Tree as T
use Rattle.rules.specs.Reading.{leaf, as_written, after_token, read_term, read_list}
use Rattle.laws.proofs.Solving.Keeping.{other_way}
use Rattle.runs.specs.Texts.{word_text}
use Rattle.flattening.specs.Terms.{Term, node, Terms, none, more}
use Rattle.flattening.specs.Items.{Item, begin, shut, comma, name}
use Rattle.flattening.proofs.ItemTokens.{item_text, Named, Proper, begins, shuts, commas, names}

-- what reading gives: a value and the items after it
abbrev pub Read : Type 0 → Type 0
Read A = Option (A × List Item)

module _ {A : Type 0} where
  -- by the item in front: an opening bracket, or not
  abbrev pub opened : List Item → (List Item → A) → A → A
  opened [] f a = a
  opened (begin ∷ is) f a = f is
  opened (shut ∷ is) f a = a
  opened (comma ∷ is) f a = a
  opened (name x ∷ is) f a = a

  -- by the item in front: a comma, a closing bracket, or neither
  abbrev pub delimited : List Item → (List Item → A) → (List Item → A) → A → A
  delimited [] f g a = a
  delimited (begin ∷ is) f g a = a
  delimited (shut ∷ is) f g a = g is
  delimited (comma ∷ is) f g a = f is
  delimited (name x ∷ is) f g a = a

  abbrev pub named : List Item → (ℕ → List Item → A) → A → A
  named [] f a = a
  named (begin ∷ is) f a = a
  named (shut ∷ is) f a = a
  named (comma ∷ is) f a = a
  named (name x ∷ is) f a = f x is

-- a list is its first term and the others
unfoldable mutual
  pub item_term : ℕ → List Item → Read Term
  item_term zero is = None
  item_term (suc k) is =
      named is (λ x js. opened js (λ ks. item_list k ks >>= λ ((t, ts), ls). Some (node x (more t ts), ls)) (Some (node x none, js))) None

  pub item_list : ℕ → List Item → Read (Term × Terms)
  item_list zero is = None
  item_list (suc k) is =
      item_term k is >>= λ (t, js).
      delimited js (λ ks. item_list k ks >>= λ ((u, us), ls). Some ((t, more u us), ls)) (λ ks. Some ((t, none), ks)) None

-- the tree of a term
unfoldable pub tree_by : Text → Trees → Tree
unfolding leaf
tree_by n T.none = leaf n
tree_by n (T.more t ts) = apply n (T.more t ts)

module _ (s : Text) where
  unfoldable mutual
    unfolding tree_by

    pub tree_of : Term → Tree
    tree_of (node x ts) = tree_by (word_text s x) (trees_of ts)

    pub trees_of : Terms → Trees
    trees_of none = T.none
    trees_of (more t ts) = T.more (tree_of t) (trees_of ts)

  abbrev texts_of : List Item → List Text
  texts_of = map (item_text s)

  abbrev as_tree : Read Term → Option (Tree × List Text)
  as_tree o = o >>= λ (t, is). Some (tree_of t, texts_of is)

  abbrev as_trees : Read (Term × Terms) → Option (Trees × List Text)
  as_trees o = o >>= λ ((t, ts), is). Some (T.more (tree_of t) (trees_of ts), texts_of is)

  -- ---- the tests of reading on the texts of items

  -- a name is none of the three
  name_is : (x : ℕ) → Named s x → (same (word_text s x) (bytes "(") ≡ false) × (same (word_text s x) (bytes ")") ≡ false) × (same (word_text s x) (bytes ",") ≡ false)
  unfolding is_one_of
  name_is x h = go (same (word_text s x) (bytes "(")) (same (word_text s x) (bytes ")")) (same (word_text s x) (bytes ",")) h.no_mark
    where
      go : (a b c : Bool) → a || (b || (c || false)) ≡ false → (a ≡ false) × (b ≡ false) × (c ≡ false)
      go false false false e = (refl, refl, refl)
      go true b c e = let z : ◌≡◌ {A = ℕ} 0 1 = cc in absurd (omega arith)
      go false true c e = let z : ◌≡◌ {A = ℕ} 0 1 = cc in absurd (omega arith)
      go false false true e = let z : ◌≡◌ {A = ℕ} 0 1 = cc in absurd (omega arith)

  after_begin : (is : List Item) → Proper s is → after_token (bytes "(") (texts_of is) ≡ opened is (λ js. Some (texts_of js)) None
  unfolding after_token same
  after_begin [] p = refl
  after_begin (begin ∷ is) p = refl
  after_begin (shut ∷ is) p = refl
  after_begin (comma ∷ is) p = refl
  after_begin (name x ∷ is) (names h p) = rw (other_way (word_text s x) (bytes "(") (name_is x h).0)

  after_comma : (is : List Item) → Proper s is → after_token (bytes ",") (texts_of is) ≡ delimited is (λ js. Some (texts_of js)) (λ js. None) None
  unfolding after_token same
  after_comma [] p = refl
  after_comma (begin ∷ is) p = refl
  after_comma (shut ∷ is) p = refl
  after_comma (comma ∷ is) p = refl
  after_comma (name x ∷ is) (names h p) = rw (other_way (word_text s x) (bytes ",") (name_is x h).2)

  after_shut : (is : List Item) → Proper s is → after_token (bytes ")") (texts_of is) ≡ delimited is (λ js. None) (λ js. Some (texts_of js)) None
  unfolding after_token same
  after_shut [] p = refl
  after_shut (begin ∷ is) p = refl
  after_shut (shut ∷ is) p = refl
  after_shut (comma ∷ is) p = refl
  after_shut (name x ∷ is) (names h p) = rw (other_way (word_text s x) (bytes ")") (name_is x h).1)

  -- ---- terms of names

  mutual
    pub data NamedTerm : Term → Type 0 where
      of : {x : ℕ} {ts : Terms} → Named s x → NamedTerms ts → NamedTerm (node x ts)

    pub data NamedTerms : Terms → Type 0 where
      nil : NamedTerms none
      both : {t : Term} {ts : Terms} → NamedTerm t → NamedTerms ts → NamedTerms (more t ts)

  abbrev pub GoodTerm : ℕ → Read Term → Type 0
  GoodTerm n None = Unit
  GoodTerm n (Some (t, is)) = NamedTerm t × Proper s is × (length is < n)

  abbrev pub GoodList : ℕ → Read (Term × Terms) → Type 0
  GoodList n None = Unit
  GoodList n (Some ((t, ts), is)) = NamedTerm t × NamedTerms ts × Proper s is × (length is < n)

  good_node : (x n : ℕ) → Named s x → (o : Read (Term × Terms)) → GoodList n o → GoodTerm (suc (suc n)) (o >>= λ ((t, ts), is). Some (node x (more t ts), is))
  good_node x n h None g = tt
  good_node x n h (Some ((t, ts), is)) (p, q, r, l) = (of h (both p q), r, omega arith)

  good_more : (t : Term) (n m : ℕ) → NamedTerm t → n < m → (o : Read (Term × Terms)) → GoodList n o → GoodList m (o >>= λ ((u, us), is). Some ((t, more u us), is))
  good_more t n m h a None g = tt
  good_more t n m h a (Some ((u, us), is)) (p, q, r, l) = (h, both p q, r, omega arith)

  good_rest : (n : ℕ) (go : List Item → Read (Term × Terms)) → ((is : List Item) → Proper s is → GoodList (length is) (go is)) → (o : Read Term) → GoodTerm n o
      → GoodList n (o >>= λ (t, js). delimited js (λ ks. go ks >>= λ ((u, us), ls). Some ((t, more u us), ls)) (λ ks. Some ((t, none), ks)) None)
  good_rest n go f None g = tt
  good_rest n go f (Some (t, [])) g = tt
  good_rest n go f (Some (t, begin ∷ is)) g = tt
  good_rest n go f (Some (t, shut ∷ is)) (h, shuts p, l) = (h, nil, p, omega arith)
  good_rest n go f (Some (t, comma ∷ is)) (h, commas p, l) = good_more t (length is) n h (omega arith) (go is) (f is p)
  good_rest n go f (Some (t, name x ∷ is)) g = tt

  mutual
    unfolding item_term

    pub good_term : (k : ℕ) (is : List Item) → Proper s is → GoodTerm (length is) (item_term k is)
    good_term zero is p = tt
    good_term (suc k) [] p = tt
    good_term (suc k) (begin ∷ is) p = tt
    good_term (suc k) (shut ∷ is) p = tt
    good_term (suc k) (comma ∷ is) p = tt
    good_term (suc k) (name x ∷ []) (names h p) = (of h nil, p, omega arith)
    good_term (suc k) (name x ∷ begin ∷ is) (names h (begins p)) = good_node x (length is) h (item_list k is) (good_list k is p)
    good_term (suc k) (name x ∷ shut ∷ is) (names h p) = (of h nil, p, omega arith)
    good_term (suc k) (name x ∷ comma ∷ is) (names h p) = (of h nil, p, omega arith)
    good_term (suc k) (name x ∷ name y ∷ is) (names h p) = (of h nil, p, omega arith)

    pub good_list : (k : ℕ) (is : List Item) → Proper s is → GoodList (length is) (item_list k is)
    good_list zero is p = tt
    good_list (suc k) is p = good_rest (length is) (item_list k) (λ js q. good_list k js q) (item_term k is) (good_term k is p)

  -- ---- reading the texts of items is reading the items

  abbrev term_rest : (List Text → Option (Trees × List Text)) → Text → List Text → Option (List Text) → Option (Tree × List Text)
  term_rest go n ts o = elim o [ None ↦ Some (leaf n, ts) | Some us ↦ go us >>= λ (children, vs). as_written n children >>= λ t. Some (t, vs) ]

  abbrev last : Tree → Option (List Text) → Option (Trees × List Text)
  last t o = o >>= λ vs. Some (T.more t T.none, vs)

  abbrev list_rest : (List Text → Option (Trees × List Text)) → Tree × List Text → Option (List Text) → Option (Trees × List Text)
  list_rest go p o =
      elim o [ Some vs ↦ go vs >>= λ (rest, ws). Some (T.more p.0 rest, ws) | None ↦ last p.0 (after_token (bytes ")") p.1) ]

  node_read : (x : ℕ) (o : Read (Term × Terms))
      → (as_trees o >>= λ (children, vs). as_written (word_text s x) children >>= λ t. Some (t, vs)) ≡ as_tree (o >>= λ ((t, ts), is). Some (node x (more t ts), is))
  unfolding tree_of tree_by
  node_read x None = refl
  node_read x (Some ((t, ts), is)) = refl

  more_read : (t : Term) (o : Read (Term × Terms))
      → (as_trees o >>= λ (rest, ws). Some (T.more (tree_of t) rest, ws)) ≡ as_trees (o >>= λ ((u, us), is). Some ((t, more u us), is))
  unfolding tree_of tree_by
  more_read t None = refl
  more_read t (Some ((u, us), is)) = refl

  -- a name and what follows it
  name_read : (x : ℕ) (is : List Item) (go : List Text → Option (Trees × List Text)) (go' : List Item → Read (Term × Terms)) → Named s x → Proper s is
      → ((js : List Item) → Proper s js → go (texts_of js) ≡ as_trees (go' js))
      → term_rest go (word_text s x) (texts_of is) (after_token (bytes "(") (texts_of is))
      ≡ as_tree (opened is (λ ks. go' ks >>= λ ((t, ts), ls). Some (node x (more t ts), ls)) (Some (node x none, is)))
  unfolding tree_of tree_by
  name_read x is go go' h p f = ap (term_rest go (word_text s x) (texts_of is)) (after_begin is p) ∙ by is p
    where
      by : (is : List Item) → Proper s is → term_rest go (word_text s x) (texts_of is) (opened is (λ js. Some (texts_of js)) None)
          ≡ as_tree (opened is (λ ks. go' ks >>= λ ((t, ts), ls). Some (node x (more t ts), ls)) (Some (node x none, is)))
      by [] p = refl
      by (begin ∷ js) (begins p) = ap (λ (o : Option (Trees × List Text)). o >>= λ (children, vs). as_written (word_text s x) children >>= λ t. Some (t, vs)) (f js p) ∙ node_read x (go' js)
      by (shut ∷ js) p = refl
      by (comma ∷ js) p = refl
      by (name y ∷ js) p = refl

  -- a term of a list and what follows it
  item_read : (t : Term) (is : List Item) (go : List Text → Option (Trees × List Text)) (go' : List Item → Read (Term × Terms)) → Proper s is
      → ((js : List Item) → Proper s js → go (texts_of js) ≡ as_trees (go' js))
      → list_rest go (tree_of t, texts_of is) (after_token (bytes ",") (texts_of is))
      ≡ as_trees (delimited is (λ ks. go' ks >>= λ ((u, us), ls). Some ((t, more u us), ls)) (λ ks. Some ((t, none), ks)) None)
  unfolding tree_of tree_by
  item_read t is go go' p f = ap (list_rest go (tree_of t, texts_of is)) (after_comma is p) ∙ by is p
    where
      shut_read : (is : List Item) → Proper s is → last (tree_of t) (after_token (bytes ")") (texts_of is))
          ≡ last (tree_of t) (delimited is (λ js. None) (λ js. Some (texts_of js)) None)
      shut_read is p = ap (last (tree_of t)) (after_shut is p)

      by : (is : List Item) → Proper s is → list_rest go (tree_of t, texts_of is) (delimited is (λ js. Some (texts_of js)) (λ js. None) None)
          ≡ as_trees (delimited is (λ ks. go' ks >>= λ ((u, us), ls). Some ((t, more u us), ls)) (λ ks. Some ((t, none), ks)) None)
      by [] p = shut_read [] p
      by (begin ∷ js) p = shut_read (begin ∷ js) p
      by (shut ∷ js) p = shut_read (shut ∷ js) p
      by (comma ∷ js) (commas p) = ap (λ (o : Option (Trees × List Text)). o >>= λ (rest, ws). Some (T.more (tree_of t) rest, ws)) (f js p) ∙ more_read t (go' js)
      by (name y ∷ js) p = shut_read (name y ∷ js) p

  rest_read : (n : ℕ) (go : List Text → Option (Trees × List Text)) (go' : List Item → Read (Term × Terms)) → ((js : List Item) → Proper s js → go (texts_of js) ≡ as_trees (go' js))
      → (o : Read Term) → GoodTerm n o → (as_tree o >>= λ q. list_rest go q (after_token (bytes ",") q.1))
      ≡ as_trees (o >>= λ (t, js). delimited js (λ ks. go' ks >>= λ ((u, us), ls). Some ((t, more u us), ls)) (λ ks. Some ((t, none), ks)) None)
  rest_read n go go' f None g = refl
  rest_read n go go' f (Some (t, js)) g = item_read t js go go' g.1 f

  mutual
    unfolding read_term item_term is_one_of same

    pub term_read : (k : ℕ) (is : List Item) → Proper s is → read_term as_written k (texts_of is) ≡ as_tree (item_term k is)
    term_read zero is p = refl
    term_read (suc k) [] p = refl
    term_read (suc k) (begin ∷ is) p = refl
    term_read (suc k) (shut ∷ is) p = refl
    term_read (suc k) (comma ∷ is) p = refl
    term_read (suc k) (name x ∷ is) (names h p) =
        ap (λ (b : Bool). guard (not b) >>= λ _. term_rest (read_list as_written k) (word_text s x) (texts_of is) (after_token (bytes "(") (texts_of is))) h.no_mark
        ∙ name_read x is (read_list as_written k) (item_list k) h p (λ js q. list_read k js q)

    pub list_read : (k : ℕ) (is : List Item) → Proper s is → read_list as_written k (texts_of is) ≡ as_trees (item_list k is)
    list_read zero is p = refl
    list_read (suc k) is p =
        ap (λ (o : Option (Tree × List Text)). o >>= λ q. list_rest (read_list as_written k) q (after_token (bytes ",") q.1)) (term_read k is p)
        ∙ rest_read (length is) (read_list as_written k) (item_list k) (λ js q. list_read k js q) (item_term k is) (good_term k is p)
