-- The text of a tree with plain names is the text of no other such tree.
use mathlib.Core.Path.{◌≡◌, refl, sym, ◌∙◌, ap, ap₂}
use mathlib.Core.Logic.{◌≢◌}
use mathlib.Core.Bool.{Bool, true, false, true≢false}
use mathlib.Core.List.{[], ◌∷◌, ◌++◌, append_assoc, nil≢cons, head-eq_of_cons-eq, tail-eq_of_cons-eq}
use Prim.Native.Nat.{ℕ}
use native.Mathlib.Omega.{arith}
use Rattle.rules.specs.Bytes.{Text}
use Rattle.rules.specs.Names.{variable_token, letter, letter_name}
use Rattle.rules.specs.Tree.{Tree, variable, apply, Trees, none, more}
use Rattle.rules.specs.Writing.{commas, listed, render, renders}
use Rattle.laws.proofs.Basics.Spelling.{Plain, end, byte, letter_plain}

-- the text of a tree in front of another text
unfoldable mutual
  put : Tree → Text → Text
  put (variable x) r = x ++ r
  put (Tree.atom c d) r = c ∷ 40 ∷ d ++ (41 ∷ r)
  put (apply n ts) r = n ++ list ts r

  list : Trees → Text → Text
  list none r = r
  list (more t ts) r = 40 ∷ put t (puts ts (41 ∷ r))

  puts : Trees → Text → Text
  puts none r = r
  puts (more t ts) r = 44 ∷ put t (puts ts r)

mutual
  unfolding put render listed commas

  render_put : (t : Tree) (r : Text) → render t ++ r ≡ put t r
  render_put (variable x) r = refl
  render_put (Tree.atom c d) r = simp append_assoc refl
  render_put (apply n ts) r = listed_put ts n r

  listed_put : (ts : Trees) (n r : Text) → listed n (renders ts) ++ r ≡ n ++ list ts r
  listed_put none n r = refl
  listed_put (more t ts) n r = simp append_assoc (rw (commas_put ts (41 ∷ r), render_put t (puts ts (41 ∷ r))))

  commas_put : (ts : Trees) (r : Text) → commas (renders ts) ++ r ≡ puts ts r
  commas_put none r = refl
  commas_put (more t ts) r = simp append_assoc (rw (commas_put ts r, render_put t (puts ts r)))

-- what may follow a tree: nothing, a comma or a closing bracket
data Stop : Text → Type 0 where
  empty : Stop []
  close : {r : Text} → Stop (41 ∷ r)
  comma : {r : Text} → Stop (44 ∷ r)

-- what may follow a name
data Break : Text → Type 0 where
  stop : {r : Text} → Stop r → Break r
  bracket : {r : Text} → Break (40 ∷ r)

no_bracket : {r s : Text} → Stop r → r ≡ 40 ∷ s → ⊥
no_bracket empty e = nil≢cons e
no_bracket close e = let h = head-eq_of_cons-eq e in omega arith
no_bracket comma e = let h = head-eq_of_cons-eq e in omega arith

-- a plain byte begins no such text
not_break : {x : ℕ} {r s : Text} → x ≢ 40 → x ≢ 41 → x ≢ 44 → Break r → r ≡ x ∷ s → ⊥
not_break p q h (stop empty) e = nil≢cons e
not_break p q h (stop close) e = q (sym (head-eq_of_cons-eq e))
not_break p q h (stop comma) e = h (sym (head-eq_of_cons-eq e))
not_break p q h bracket e = p (sym (head-eq_of_cons-eq e))

-- where a name ends
split : {n m : Text} → Plain n → Plain m → {r s : Text} → Break r → Break s → n ++ r ≡ m ++ s → (n ≡ m) × (r ≡ s)
split end end h k e = (refl, e)
split end (byte p q c w) h k e = absurd (not_break p q c h e)
split (byte p q c v) end h k e = absurd (not_break p q c k (sym e))
split (byte p q c v) (byte p' q' c' w) h k e = let i = split v w h k (tail-eq_of_cons-eq e) in let x = head-eq_of_cons-eq e in (cc, i.1)

-- a leaf as reading builds it: with a colon it is a variable
unfoldable pub leaf_of : Bool → Text → Tree
leaf_of true n = variable n
leaf_of false n = apply n none

-- trees with plain names, of which a letter heads no list
mutual
  pub data Named : Tree → Type 0 where
    leaf : {t : Tree} {n : Text} → Plain n → t ≡ leaf_of (variable_token n) n → Named t
    atom : {c : ℕ} {d : Text} → letter c ≡ true → Plain d → Named (Tree.atom c d)
    node : {n : Text} {t : Tree} {ts : Trees} → Plain n → letter_name n ≡ false → Named t → Nameds ts → Named (apply n (more t ts))

  pub data Nameds : Trees → Type 0 where
    nil : Nameds none
    both : {t : Tree} {ts : Trees} → Named t → Nameds ts → Nameds (more t ts)

leaf_of_text : (b : Bool) (n r : Text) → put (leaf_of b n) r ≡ n ++ r
unfolding put leaf_of
leaf_of_text true n r = refl
leaf_of_text false n r = refl

leaf_text : {t : Tree} (n r : Text) → t ≡ leaf_of (variable_token n) n → put t r ≡ n ++ r
leaf_text n r e = rw e (leaf_of_text (variable_token n) n r)

puts_stop : (ts : Trees) (r : Text) → Stop (puts ts (41 ∷ r))
unfolding put
puts_stop none r = close
puts_stop (more t ts) r = comma

mutual
  unfolding put letter_name

  read : {a b : Tree} → Named a → Named b → (r s : Text) → Stop r → Stop s → put a r ≡ put b s → (a ≡ b) × (r ≡ s)
  read (leaf {n = n} p e) (leaf {n = m} q f) r s h k g =
      let i = split p q (stop h) (stop k) (sym (leaf_text n r e) ∙ g ∙ leaf_text m s f) in (cc, i.1)
  read (leaf {n = n} p e) (atom {c = c} l q) r s h k g = absurd (no_bracket h (split p (letter_plain c l) (stop h) bracket (sym (leaf_text n r e) ∙ g)).1)
  read (leaf {n = n} p e) (node q l t ts) r s h k g = absurd (no_bracket h (split p q (stop h) bracket (sym (leaf_text n r e) ∙ g)).1)
  read (atom {c = c} l p) (leaf {n = m} q f) r s h k g = absurd (no_bracket k (split q (letter_plain c l) (stop k) bracket (sym (leaf_text m s f) ∙ sym g)).1)
  read (atom {c = c} l p) (atom {c = b} l' q) r s h k g =
      let i = split (letter_plain c l) (letter_plain b l') bracket bracket g in
      let j = split p q (stop close) (stop close) (tail-eq_of_cons-eq i.1) in
      (ap₂ Tree.atom (head-eq_of_cons-eq i.0) j.0, tail-eq_of_cons-eq j.1)
  read (atom {c = c} l p) (node q l' t ts) r s h k g =
      let i = split (letter_plain c l) q bracket bracket g in absurd (true≢false (sym l ∙ ap letter_name i.0 ∙ l'))
  read (node p l t ts) (leaf {n = m} q f) r s h k g = absurd (no_bracket k (split q p (stop k) bracket (sym (leaf_text m s f) ∙ sym g)).1)
  read (node p l t ts) (atom {c = c} l' q) r s h k g =
      let i = split (letter_plain c l') p bracket bracket (sym g) in absurd (true≢false (sym l' ∙ ap letter_name i.0 ∙ l))
  read (node {ts = us} p l t ts) (node {ts = vs} q l' u us') r s h k g =
      let i = split p q bracket bracket g in
      let j = read t u (puts us (41 ∷ r)) (puts vs (41 ∷ s)) (puts_stop us r) (puts_stop vs s) (tail-eq_of_cons-eq i.1) in
      let w = reads ts us' r s j.1 in
      (cc, w.1)

  reads : {ts us : Trees} → Nameds ts → Nameds us → (r s : Text) → puts ts (41 ∷ r) ≡ puts us (41 ∷ s) → (ts ≡ us) × (r ≡ s)
  reads nil nil r s g = (refl, tail-eq_of_cons-eq g)
  reads nil (both t ts) r s g = let h = head-eq_of_cons-eq g in absurd (omega arith)
  reads (both t ts) nil r s g = let h = head-eq_of_cons-eq g in absurd (omega arith)
  reads (both {ts = us} t ts) (both {ts = vs} u us') r s g =
      let j = read t u (puts us (41 ∷ r)) (puts vs (41 ∷ s)) (puts_stop us r) (puts_stop vs s) (tail-eq_of_cons-eq g) in
      let w = reads ts us' r s j.1 in
      (cc, w.1)

pub render_injective : {a b : Tree} → Named a → Named b → render a ≡ render b → a ≡ b
render_injective {a} {b} p q e =
    (read p q [] [] empty empty (sym (render_put a []) ∙ ap (λ t. t ++ []) e ∙ render_put b [])).0
