-- The choices of a scheme in the order in which they are made: the children's, left to right, then the root's. The first choice varies
-- slowest. Definitions only.
use Rattle.std.specs.Prelude.{ℕ, ◌*◌, ◌/◌, ◌<◌, ◌≡◌, Bool, List, Option, Some, None}
use Rattle.std.specs.Option.{is_some}
use Rattle.rules.specs.Bytes.{Text}
use Rattle.rules.specs.Tree.{Tree, variable, atom, apply, Trees, none, more}
use Rattle.rules.specs.Substitution.{Pair}
use Rattle.rules.specs.declared.Rule.{Rule}
use Rattle.rules.specs.declared.Rule.TheVariants.{Fst, Snd, Flip, Sdec, Kdec}
use Rattle.rules.specs.Reduction.{arguments1, arguments2}
use Rattle.rules.specs.Variants.{Scheme, scheme, Joined}
use Rattle.laws.specs.Schemes.{root_count, root_at}

-- a tree with other children
abbrev pub over : Tree → Trees → Tree
over (variable x) us = variable x
over (atom c d) us = atom c d
over (apply f ts) us = apply f us

-- a list before another
unfoldable pub appended : Trees → Trees → Trees
appended none us = us
appended (more t ts) us = more t (appended ts us)

-- how many choices there are at the root of a tree
unfoldable pub ways_of : Tree → ℕ
unfolding root_count
ways_of (variable x) = 1
ways_of (atom c d) = 1
ways_of (apply f ts) = root_count f ts

-- whether a list has as many trees as a rule asks for
abbrev pub suits : Rule → Trees → Bool
suits Fst ts = is_some (arguments1 ts)
suits Snd ts = is_some (arguments1 ts)
suits Flip ts = is_some (arguments1 ts)
suits Sdec ts = is_some (arguments2 ts)
suits Kdec ts = is_some (arguments2 ts)

-- how many choices there are at a root where a rule, if any, can fire
abbrev pub choice_count : Option Rule → ℕ
choice_count None = 1
choice_count (Some Fst) = 2
choice_count (Some Snd) = 2
choice_count (Some Flip) = 3
choice_count (Some Sdec) = 2
choice_count (Some Kdec) = 2

-- children with their equations and the next fresh variable
abbrev pub joined_as : Trees → List Pair → ℕ → Joined
joined_as ts es n = record { values = ts; equations = es; next = n }

-- a choice at the root, after those of the children, by the names of the fresh variables
unfoldable pub root_of : (ℕ → Text) → Tree → Joined → ℕ → Scheme
unfolding root_at
root_of name (variable x) j c = scheme (variable x) j.equations j.next
root_of name (atom a d) j c = scheme (atom a d) j.equations j.next
root_of name (apply f ts) j c = root_at name f j c

-- an index below a number of ways that c divides
pub record Shared (c ways index : ℕ) : Type 0 where
  pub whole : ways ≡ c * (ways / c)
  pub below : index < ways
