-- Entries and their bindings in two orders, where keys that no variable can have may be left out: every variable has the same value.
use mathlib.Core.Path.{◌≡◌, refl, sym, ap, ap₂, ◌∙◌}
use mathlib.Core.Bool.{Bool, true, false, cond, not, true≢false}
use mathlib.Core.List.{List, [], ◌∷◌, ◌++◌, append_assoc, append-nil, map}
use Rattle.std.specs.Prelude.{Option, Some, None}
use borrow.Author.Tests.{not-true}
use Rattle.rules.specs.Bytes.{Text, same}
use Rattle.rules.specs.Text.{is_one_of}
use Rattle.rules.specs.Maybe.{◌>>=◌, every}
use Rattle.rules.specs.Tree.{Tree, variable, Trees, more}
use Rattle.rules.specs.Reading.{parse}
use Rattle.rules.specs.Substitution.{Binding, pick, lookup}
use Rattle.rules.specs.Sheet.{Entry, distinct_keys}
use Rattle.rules.specs.Variants.{read_entry}
use Rattle.text.proofs.Sameness.{same_swap}
use Rattle.laws.proofs.Basics.Tests.{and_split, and_both, neither, neither_left, neither_right, same_eq, same_self, differ_of_ne}
use Rattle.substitution.specs.Bindings.{bindings_of, Chain}
use Rattle.substitution.proofs.Chains.{chain_more}
use Rattle.forms.specs.Members.{keys_of, distinct}
use Rattle.forms.proofs.Distinct.{distinct_keys_are}
use Rattle.variants.specs.Members.{nameable, binding_before, Alike}

-- ---- keys

abbrev names : List Binding → List Text
names bs = map (λ (b : Binding). b.0) bs

keys_last : (es : List Entry) (e : Entry) → keys_of (es ++ (e ∷ [])) ≡ keys_of es ++ (e.0 ∷ [])
keys_last [] e = refl
keys_last (f ∷ es) e = ap (λ (ks : List Text). f.0 ∷ ks) (keys_last es e)

one_of_last : (ks : List Text) (k x : Text) → is_one_of (ks ++ (k ∷ [])) x ≡ false → (is_one_of ks x ≡ false) × (same x k ≡ false)
unfolding is_one_of
one_of_last [] k x e = (refl, neither_left (same x k) false e)
one_of_last (j ∷ ks) k x e =
    let r = one_of_last ks k x (neither_right (same x j) (is_one_of (ks ++ (k ∷ [])) x) e) in
    (neither (same x j) (is_one_of ks x) (neither_left (same x j) (is_one_of (ks ++ (k ∷ [])) x) e) r.0, r.1)

distinct_last : (ks : List Text) (k : Text) → distinct (ks ++ (k ∷ [])) ≡ true → (distinct ks ≡ true) × (is_one_of ks k ≡ false)
unfolding distinct is_one_of
distinct_last [] k e = (refl, refl)
distinct_last (j ∷ ks) k e =
    let a = and_split (not (is_one_of (ks ++ (k ∷ [])) j)) (distinct (ks ++ (k ∷ []))) e in
    let b = one_of_last ks k j (not-true (is_one_of (ks ++ (k ∷ [])) j) a.0) in
    let r = distinct_last ks k a.1 in
    (and_both (not (is_one_of ks j)) (distinct ks) (ap not b.0) r.0, neither (same k j) (is_one_of ks k) (same_swap k j ∙ b.1) r.1)

-- ---- a binding behind others

past : (bs : List Binding) (k : Text) (t : Tree) (cs : List Binding) (x : Text) → same k x ≡ false → lookup (bs ++ ((k, t) ∷ cs)) x ≡ lookup (bs ++ cs) x
unfolding lookup
past [] k t cs x e = ap (λ (b : Bool). pick b t (lookup cs x)) e
past (b ∷ bs) k t cs x e = ap (pick (same b.0 x) b.1) (past bs k t cs x e)

found : (bs : List Binding) (k : Text) (t : Tree) (cs : List Binding) → is_one_of (names bs) k ≡ false → lookup (bs ++ ((k, t) ∷ cs)) k ≡ t
unfolding lookup is_one_of
found [] k t cs e = ap (λ (b : Bool). pick b t (lookup cs k)) (same_self k)
found (b ∷ bs) k t cs e =
    ap (λ (a : Bool). pick a b.1 (lookup (bs ++ ((k, t) ∷ cs)) k)) (same_swap b.0 k ∙ neither_left (same k b.0) (is_one_of (names bs) k) e)
    ∙ found bs k t cs (neither_right (same k b.0) (is_one_of (names bs) k) e)

ahead : (bs : List Binding) (k : Text) (t : Tree) (cs : List Binding) (x : Text) → is_one_of (names bs) k ≡ false → lookup ((k, t) ∷ (bs ++ cs)) x ≡ lookup (bs ++ ((k, t) ∷ cs)) x
unfolding lookup
ahead bs k t cs x e = go (same k x) refl
  where
    go : (b : Bool) → same k x ≡ b → pick b t (lookup (bs ++ cs) x) ≡ lookup (bs ++ ((k, t) ∷ cs)) x
    go true f = sym (ap (lookup (bs ++ ((k, t) ∷ cs))) (sym (same_eq k x f)) ∙ found bs k t cs e)
    go false f = sym (past bs k t cs x f)

-- ---- entries in their order as ds, and the last first as bs

pub record Turned (es : List Entry) (bs ds : List Binding) : Type 0 where
  pub absent : (x : Text) → is_one_of (keys_of es) x ≡ false → is_one_of (names bs) x ≡ false
  pub agree : distinct (keys_of es) ≡ true → (x : Text) → nameable x ≡ true → (cs : List Binding) → lookup (bs ++ cs) x ≡ lookup (ds ++ cs) x

pub turned_none : Turned [] [] []
turned_none = record { absent = λ x e. e; agree = λ d x e cs. refl }

abbrev pub bound_before : Text → Tree → List Binding → List Binding
bound_before x t bs = cond (nameable x) ((x, t) ∷ bs) bs

pub turned_more : {es : List Entry} {bs ds : List Binding} (k v : Text) (t : Tree) → Turned es bs ds → Turned (es ++ ((k, v) ∷ [])) (bound_before k t bs) (ds ++ ((k, t) ∷ []))
turned_more {es} {bs} {ds} k v t h = go (nameable k) refl
  where
    joined : (x : Text) (cs : List Binding) → lookup (ds ++ ((k, t) ∷ cs)) x ≡ lookup ((ds ++ ((k, t) ∷ [])) ++ cs) x
    joined x cs = ap (λ (l : List Binding). lookup l x) (sym (append_assoc ds ((k, t) ∷ []) cs))

    go : (b : Bool) → nameable k ≡ b → Turned (es ++ ((k, v) ∷ [])) (cond b ((k, t) ∷ bs) bs) (ds ++ ((k, t) ∷ []))
    go true e = record {
      absent = λ x f.
          let o = one_of_last (keys_of es) k x (rw (keys_last es (k, v)) at f) in
          unfold is_one_of in neither (same x k) (is_one_of (names bs) x) o.1 (h.absent x o.0);
      agree = λ d x f cs.
          let o = distinct_last (keys_of es) k (rw (keys_last es (k, v)) at d) in
          ahead bs k t cs x (h.absent k o.1) ∙ h.agree o.0 x f ((k, t) ∷ cs) ∙ joined x cs;
    }
    go false e = record {
      absent = λ x f. h.absent x (one_of_last (keys_of es) k x (rw (keys_last es (k, v)) at f)).0;
      agree = λ d x f cs.
          let o = distinct_last (keys_of es) k (rw (keys_last es (k, v)) at d) in
          sym (past bs k t cs x (differ_of_ne (λ q. true≢false (sym f ∙ ap nameable (sym q) ∙ e)))) ∙ h.agree o.0 x f ((k, t) ∷ cs) ∙ joined x cs;
    }

pub turned_alike : {es : List Entry} {bs ds : List Binding} → Turned es bs ds → distinct_keys es [] ≡ true → Alike bs ds
turned_alike {es} {bs} {ds} h d x e =
    ap (λ (l : List Binding). lookup l x) (sym (append-nil bs)) ∙ h.agree (sym (distinct_keys_are es) ∙ d) x e [] ∙ ap (λ (l : List Binding). lookup l x) (append-nil ds)

-- ---- a binding before a list of trees

pub bindings_with : (x : Text) (t : Tree) (ts : Trees) → bindings_of (binding_before x t ts) ≡ bound_before x t (bindings_of ts)
unfolding bindings_of binding_before
bindings_with x t ts = go (nameable x)
  where
    go : (b : Bool) → bindings_of (cond b (more (variable x) (more t ts)) ts) ≡ cond b ((x, t) ∷ bindings_of ts) (bindings_of ts)
    go true = unfold bindings_of in refl
    go false = refl

pub chain_with : (x : Text) (t : Tree) (ts : Trees) → Chain ts → Chain (binding_before x t ts)
unfolding binding_before
chain_with x t ts c = go (nameable x)
  where
    go : (b : Bool) → Chain (cond b (more (variable x) (more t ts)) ts)
    go true = chain_more x t ts c
    go false = c

-- ---- entries read one after the other

every_append : (es fs : List Entry) → every (map read_entry (es ++ fs)) ≡ (every (map read_entry es) >>= λ bs. every (map read_entry fs) >>= λ cs. Some (bs ++ cs))
unfolding every
every_append [] fs = go (every (map read_entry fs))
  where
    go : (o : Option (List Binding)) → o ≡ (o >>= λ cs. Some cs)
    go None = refl
    go (Some cs) = refl
every_append (e ∷ es) fs =
    ap (λ (o : Option (List Binding)). read_entry e >>= λ b. o >>= λ bs. Some (b ∷ bs)) (every_append es fs) ∙ go (read_entry e) (every (map read_entry es)) (every (map read_entry fs))
  where
    go : (o : Option Binding) (p q : Option (List Binding))
        → (o >>= λ b. (p >>= λ bs. q >>= λ cs. Some (bs ++ cs)) >>= λ ds. Some (b ∷ ds)) ≡ ((o >>= λ b. p >>= λ bs. Some (b ∷ bs)) >>= λ bs. q >>= λ cs. Some (bs ++ cs))
    go None p q = refl
    go (Some b) None q = refl
    go (Some b) (Some bs) None = refl
    go (Some b) (Some bs) (Some cs) = refl

entries_first : (k v : Text) (es : List Entry) (o : Option Tree) → parse v ≡ o → every (map read_entry ((k, v) ∷ es)) ≡ (o >>= λ t. every (map read_entry es) >>= λ bs. Some ((k, t) ∷ bs))
unfolding every read_entry
entries_first k v es o e = ap (λ (o : Option Tree). (o >>= λ t. Some (k, t)) >>= λ b. every (map read_entry es) >>= λ bs. Some (b ∷ bs)) e ∙ go o
  where
    go : (o : Option Tree) → ((o >>= λ t. Some (k, t)) >>= λ b. every (map read_entry es) >>= λ bs. Some (b ∷ bs)) ≡ (o >>= λ t. every (map read_entry es) >>= λ bs. Some ((k, t) ∷ bs))
    go None = refl
    go (Some t) = refl

pub entries_last : (es : List Entry) (ds : List Binding) (k v : Text) (t : Tree) → every (map read_entry es) ≡ Some ds → parse v ≡ Some t → every (map read_entry (es ++ ((k, v) ∷ []))) ≡ Some (ds ++ ((k, t) ∷ []))
unfolding every
entries_last es ds k v t e f =
    every_append es ((k, v) ∷ [])
    ∙ ap₂ (λ (o p : Option (List Binding)). o >>= λ bs. p >>= λ cs. Some (bs ++ cs)) e (entries_first k v [] (Some t) f)

abbrev unread : Option (List Binding)
unread = None

pub entries_unread : (es : List Entry) (k v : Text) (fs : List Entry) → parse v ≡ None → every (map read_entry (es ++ ((k, v) ∷ fs))) ≡ None
entries_unread es k v fs f =
    every_append es ((k, v) ∷ fs) ∙ ap (λ (p : Option (List Binding)). every (map read_entry es) >>= λ bs. p >>= λ cs. Some (bs ++ cs)) (entries_first k v fs None f) ∙ go (every (map read_entry es))
  where
    go : (o : Option (List Binding)) → (o >>= λ bs. unread) ≡ unread
    go None = refl
    go (Some bs) = refl
