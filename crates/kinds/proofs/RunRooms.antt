-- The words that a sheet needs are enough for the run over its pairs: what is read, the weight of the pairs, two cells for each pair
-- taken, and NAME_CELLS for each name.
use mathlib.Core.Path.{◌≡◌, refl}
use mathlib.Core.List.{List}
use Rattle.std.specs.Prelude.{Some}
use Prim.Native.Nat.{ℕ, ◌+◌, ◌*◌, ◌<◌, ◌≤◌, ◌^◌}
use native.Mathlib.Omega.{arith}
use lib.ListN.{length}
use Rattle.rules.specs.Bytes.{Text}
use Rattle.rules.specs.Text.{count_of}
use Rattle.rules.specs.Sheet.{Sheet, read_sheet, words_needed}
use Rattle.rules.specs.Substitution.{Pair}
use Rattle.rules.specs.Answer.{read_pairs}
use Rattle.laws.specs.Memory.{OverPairs, weight, sheet_pairs}
use Rattle.elimination.specs.declared.room.TheConstants.{STEP_WORDS, NAME_CELLS}
use Rattle.forms.proofs.WordLaws.{count_bound}
use Rattle.laws.proofs.Solving.Weights.{weight_size}
use Rattle.laws.proofs.Sheets.NamesRead.{sheet_names, sides_held, pairs_over, pairs_sizes}

module _ (s : Text) (sheet : Sheet) (reads : read_sheet s ≡ Some sheet) (ps : List Pair) (pairs : read_pairs (sheet_pairs sheet) ≡ Some ps) (short : length s ≤ 65536)
    (free fuel words : ℕ) (used : free ≤ 1 + 2 * length s) (fuelled : fuel ≤ 65536) (enough : words_needed s sheet ≤ words) where
  pub pair_names : (ns : List Text) × (length ns ≤ count_of 58 s) × OverPairs ns ps
  pair_names =
      let (ns, l, h) = sheet_names s sheet reads in
      (ns, l, pairs_over ns (sheet_pairs sheet) ps pairs (sides_held ns sheet h))

  pub run_words : (n : ℕ) → n ≤ count_of 58 s → 4 * (free + weight ps + 2 * fuel + NAME_CELLS * n) + STEP_WORDS ≤ words
  unfolding words_needed
  run_words n l = omega (arith, weight_size ps, pairs_sizes s sheet reads ps pairs)

  pub run_cells : (n : ℕ) → n ≤ count_of 58 s → free + weight ps + 2 * fuel + NAME_CELLS * n + 65536 < 2 ^ 32
  run_cells n l = omega (arith, weight_size ps, pairs_sizes s sheet reads ps pairs, count_bound 58 s short refl)
