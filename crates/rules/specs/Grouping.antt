-- Terms as `equal` reads them, of any size, with sums of any number of summands, and their equality up to order and grouping of sums
-- (01, "Reading", the last paragraph; certificate.rs, `apply`, `equivalent`).
use Rattle.std.specs.Prelude.{◌≡◌, true, ◌||◌, Option}
use Rattle.rules.specs.Bytes.{Text}
use Rattle.rules.specs.Names.{word, variable_token}
use Rattle.rules.specs.Tree.{Tree, variable, apply, Trees, none, more, tamtplus}
use Rattle.rules.specs.Reading.{as_written, read_text}

-- the tree of a text: every name with its list, as it is written; no limit
unfoldable pub read_written : Text → Option Tree
unfolding read_text
read_written s = read_text as_written s

-- such a tree: a leaf with a colon is a variable, and any name heads a list
mutual
  pub data Written : Tree → Type 0 where
    a_variable : {x : Text} → variable_token x ≡ true → Written (variable x)
    a_leaf : {f : Text} → word f ≡ true → Written (apply f none)
    a_list : {f : Text} {t : Tree} {ts : Trees} → (word f || variable_token f) ≡ true → Written t → Writtens ts → Written (apply f (more t ts))

  pub data Writtens : Trees → Type 0 where
    no_more : Writtens none
    one_more : {t : Tree} {ts : Trees} → Written t → Writtens ts → Writtens (more t ts)

abbrev pub sum_of_all : Trees → Tree
sum_of_all ts = apply tamtplus ts

-- swapping two neighbours and regrouping, in any sum. A sum of one is not its summand, but inside a sum it is. A leaf `tamtplus` is no
-- sum
mutual
  pub data SameSums : Tree → Tree → Type 0 where
    reflexive : {a : Tree} → SameSums a a
    symmetric : {a b : Tree} → SameSums a b → SameSums b a
    transitive : {a b c : Tree} → SameSums a b → SameSums b c → SameSums a c
    congruent : {f : Text} {ts us : Trees} → AllSameSums ts us → SameSums (apply f ts) (apply f us)
    rearranged : {ts us : Trees} → Rearranges ts us → SameSums (sum_of_all ts) (sum_of_all us)

  pub data AllSameSums : Trees → Trees → Type 0 where
    nil : AllSameSums none none
    both : {a b : Tree} {ts us : Trees} → SameSums a b → AllSameSums ts us → AllSameSums (more a ts) (more b us)

  -- the summands of one sum
  pub data Rearranges : Trees → Trees → Type 0 where
    later : {a : Tree} {ts us : Trees} → Rearranges ts us → Rearranges (more a ts) (more a us)
    swap : {a b : Tree} {ts : Trees} → Rearranges (more a (more b ts)) (more b (more a ts))
    regroup : {a b : Tree} {bs ts : Trees} → Rearranges (more (sum_of_all (more a (more b bs))) ts) (more a (more (sum_of_all (more b bs)) ts))
    sum_of_one : {a : Tree} {ts : Trees} → Rearranges (more (sum_of_all (more a none)) ts) (more a ts)
