-- How many lines a text may have, and which of them is wrong: for reading lines.
use Rattle.std.proofs.Common.{◌≡◌, ◌∙◌, ℕ, suc, ◌<◌, ◌≤◌, Bool, true, false, cond, List, [], ◌∷◌}
use Rattle.std.proofs.Common.{Some, arith, get_or, length}
use Rattle.std.proofs.Common.{ap, subst, sym}
use Rattle.std.specs.Prelude.{◌==◌}
use Rattle.std.specs.List.{onto_first, slice_split}
use Rattle.std.specs.Str.{trim}
use Rattle.std.specs.Str.Lines.{lines, lines_of_parts}
use Rattle.std.proofs.lemmas.Option.{slice_get-get_or}
use Rattle.lalrpop_plain_tables.specs.Lines.{IsFaultOfLine, IsFaultOfLines, IsProductionLine}
use Rattle.lalrpop_plain_tables.specs.declared.lines.error.LinesError.{LinesError}
use Rattle.lalrpop_plain_tables.specs.declared.lines.error.LinesError.TheVariants.{Line, Memory, TooMany}

last_line : (part : List ℕ) → length (lines_of_parts (part ∷ [])) ≤ 1
last_line part = go (length part == 0)
  where
    go : (b : Bool) → length (cond b [] (part ∷ [])) ≤ 1
    go true = omega arith
    go false = omega arith

more_lines : (b : Bool) (x : ℕ) (parts : List (List ℕ)) (n : ℕ) → length (lines_of_parts parts) ≤ n → 0 < length parts →
    length (lines_of_parts (cond b ([] ∷ parts) (onto_first x parts))) ≤ suc n
more_lines b x [] n h some = absurd (omega (arith, some))
more_lines true x (y ∷ parts) n h some = omega (arith, h)
more_lines false x (y ∷ []) n h some = omega (arith, last_line (x ∷ y))
more_lines false x (y ∷ z ∷ parts) n h some = omega (arith, h)

some_part : (p : ℕ → Bool) (text : List ℕ) → 0 < length (slice_split p text)
some_part p [] = omega arith
some_part p (x ∷ text) = go (p x) (slice_split p text) (some_part p text)
  where
    go : (b : Bool) (parts : List (List ℕ)) → 0 < length parts → 0 < length (cond b ([] ∷ parts) (onto_first x parts))
    go true parts h = omega arith
    go false [] h = omega arith
    go false (y ∷ parts) h = omega arith

-- no more than it has bytes
pub lines_few : (text : List ℕ) → length (lines text) ≤ length text
lines_few [] = omega arith
lines_few (x ∷ text) =
    more_lines (x == 10) x (slice_split (λ b. b == 10) text) (length text) (lines_few text) (some_part (λ b. b == 10) text)

-- the fault of one line is one of the text
pub fault_of_line : (text line trimmed : List ℕ) (at number count : ℕ) (error : LinesError) → at < length (lines text) →
    line ≡ get_or (lines text) at line → number ≡ suc at → count ≤ at → trimmed ≡ trim line → 0 < length trimmed →
    IsFaultOfLine trimmed number count error → IsFaultOfLines text error
fault_of_line text line trimmed at number count (Line n) here read e few same some h = record {
  at = at;
  line = line;
  there = slice_get-get_or (lines text) at line here ∙ ap Some (sym read);
  number_is = h.0 ∙ e;
  some = omega (arith, some, ap length same);
  wrong = λ p. h.1 (subst IsProductionLine (sym same) p);
}
fault_of_line text line trimmed at number count TooMany here read e few same some h = omega (arith, here, few, h)
fault_of_line text line trimmed at number count Memory here read e few same some h = tt
