-- The schemes of two terms, each with its equations in their order (01, "Reduction and variants").
use Rattle.std.specs.Prelude.{ℕ}
use mathlib.Core.List.{List, [], ◌∷◌, map}
use Prim.Native.String.{String}
use Rattle.rules.specs.Bytes.{Text}
use Rattle.rules.specs.Text.{bytes}
use Rattle.rules.specs.Tree.{Tree, variable, apply, none, more}
use Rattle.rules.specs.Writing.{render}
use Rattle.rules.specs.Substitution.{Pair}
use Rattle.rules.specs.Variants.{Scheme, fresh_from, schemes_from, system}

-- a scheme in texts: the value, the equations, the next fresh index
abbrev pub SchemeTexts : Type 0
SchemeTexts = Text × List (Text × Text) × ℕ

abbrev pub rendered : Pair → Text × Text
rendered p = (render p.0, render p.1)

abbrev pub in_texts : Scheme → SchemeTexts
in_texts s = (render s.value, map rendered s.equations, s.next)

-- the same in literals
abbrev pub Literals : Type 0
Literals = String × List (String × String) × ℕ

abbrev pub literal : String × String → Text × Text
literal e = (bytes e.0, bytes e.1)

abbrev pub literals : Literals → SchemeTexts
literals l = (bytes l.0, map literal l.1, l.2)

abbrev pub of_name : String → Tree
of_name x = variable (bytes x)

abbrev pub of_first : Tree → Tree
of_first t = apply (bytes "tamXCfst") (more t none)

abbrev pub of_second : Tree → Tree
of_second t = apply (bytes "tamXCsnd") (more t none)

-- a rule above two others: each child stays before its rule, the first child before the second, the term before its own rule
abbrev pub three_rules : Tree
three_rules = apply (bytes "tamXCsdec") (more (of_first (of_name "x0:Msg")) (more (of_second (of_name "x1:Msg")) none))

abbrev pub three_rule_schemes : List Literals
three_rule_schemes =
    ("tamXCsdec(tamXCfst(x0:Msg),tamXCsnd(x1:Msg))", [], 0)
    ∷ ("x2:Msg", ("tamXCfst(x0:Msg)", "tamXCsenc(x2:Msg,x3:Msg)") ∷ ("tamXCsnd(x1:Msg)", "x3:Msg") ∷ [], 2)
    ∷ ("tamXCsdec(tamXCfst(x0:Msg),x3:Msg)", ("x1:Msg", "tamXCpair(x2:Msg,x3:Msg)") ∷ [], 2)
    ∷ ("x4:Msg", ("tamXCfst(x0:Msg)", "tamXCsenc(x4:Msg,x5:Msg)") ∷ ("x3:Msg", "x5:Msg") ∷ ("x1:Msg", "tamXCpair(x2:Msg,x3:Msg)") ∷ [], 4)
    ∷ ("tamXCsdec(x2:Msg,tamXCsnd(x1:Msg))", ("x0:Msg", "tamXCpair(x2:Msg,x3:Msg)") ∷ [], 2)
    ∷ ("x4:Msg", ("x2:Msg", "tamXCsenc(x4:Msg,x5:Msg)") ∷ ("tamXCsnd(x1:Msg)", "x5:Msg") ∷ ("x0:Msg", "tamXCpair(x2:Msg,x3:Msg)") ∷ [], 4)
    ∷ ("tamXCsdec(x2:Msg,x5:Msg)", ("x0:Msg", "tamXCpair(x2:Msg,x3:Msg)") ∷ ("x1:Msg", "tamXCpair(x4:Msg,x5:Msg)") ∷ [], 4)
    ∷ ("x6:Msg", ("x2:Msg", "tamXCsenc(x6:Msg,x7:Msg)") ∷ ("x5:Msg", "x7:Msg") ∷ ("x0:Msg", "tamXCpair(x2:Msg,x3:Msg)") ∷ ("x1:Msg", "tamXCpair(x4:Msg,x5:Msg)") ∷ [], 6)
    ∷ []

-- what is unified for each scheme of `tamXCfst(x0:Msg)`
abbrev pub first_systems : List (List (String × String))
first_systems =
    (("tamXCfst(x0:Msg)", "tamXCfst(x0:Msg)") ∷ ("tamXCfst(x0:Msg)", "tamXCfst(x0:Msg)") ∷ [])
    ∷ (("x0:Msg", "tamXCpair(x1:Msg,x2:Msg)") ∷ ("tamXCfst(x0:Msg)", "tamXCfst(x0:Msg)") ∷ ("x1:Msg", "x1:Msg") ∷ [])
    ∷ []

-- the schemes of a tree from a base on
abbrev pub schemes_of : ℕ → Tree → List SchemeTexts
schemes_of base t = map in_texts (schemes_from (fresh_from base) t 0)

abbrev pub systems_of : ℕ → Tree → List (List (Text × Text))
systems_of base t = map (λ (s : Scheme). map rendered (system t s)) (schemes_from (fresh_from base) t 0)
