-- Groups and repetitions as they are printed, and what is read of them. For printed patterns.
use Rattle.std.proofs.Common.{◌≡◌, ℕ, suc, ◌≤◌, Bool, true, false, ◌==◌, List, [], ◌∷◌, ◌++◌, length}
use Rattle.std.proofs.Common.{Option, Ok, None, Some, refl, ap, ◌∙◌, arith, append_assoc, append-nil, length-append}
use Rattle.std.proofs.lemmas.Bool.{and_parts}
use Rattle.std.proofs.lemmas.Bool.Decides.{nat_tests}
use Rattle.std.specs.Prelude.{IfSome}
use Rattle.std.specs.Fmt.{decimal}
use Rattle.lalrpop_lexer_pattern.specs.Matches.{Pattern}
use Rattle.lalrpop_lexer_regex.specs.Outcome.{after_at}
use Rattle.lalrpop_lexer_regex.specs.Repeats.{upper_at, bounds_at, repeat_sign_at, greedy_at, repeats_read}
use Rattle.lalrpop_lexer_regex.specs.Patterns.{one_of, atom_with, factor_at, atom_at, pattern_at, inner_at}
use Rattle.lalrpop_lexer_regex.specs.Patterns.{pattern_group_with, special_group_with}
use Rattle.lalrpop_lexer_regex.specs.GroupNames.{is_name_start, is_name_more, group_name_from, group_name_at, name_mark_at}
use Rattle.lalrpop_lexer_regex.proofs.PatternLemmas.{IsRepeating, repeats_start, repeats_more}
use Rattle.lalrpop_lexer_regex.proofs.PatternLemmas.{branches_start, branches_end, branches_none, pattern_with-is}
use Rattle.lalrpop_lexer_regex.specs.Printing.{is_all_more, is_group_name, bounds_fall, greatest_text, lazy_mark, bounds_text}
use Rattle.lalrpop_lexer_regex.proofs.NumeralLemmas.{count_read, count_no_brace}
use Rattle.lalrpop_lexer_regex.proofs.ReadingLemmas.{has_no_repeat, has_no_question, IsAtom, IsLeft, IsPiece}
use Rattle.lalrpop_lexer_regex.proofs.ReadingLemmas.{IsChoice}

-- with no flag on, the text begins with a pattern, up to its end or a closing bracket
abbrev pub IsWhole : ℕ → List ℕ → Pattern → List ℕ → Type 0
IsWhole d t p rest = pattern_at d (record { insensitive = false; dot_all = false }) t ≡ Ok (p, rest)

-- with no flag on, the text begins with a pattern and a closing bracket
abbrev pub IsInner : ℕ → ℕ → List ℕ → Pattern → List ℕ → Type 0
IsInner d left t p rest = inner_at d (record { insensitive = false; dot_all = false }) left t ≡ Ok (p, rest)

-- branches up to the end of the text
pub whole_choice : (d : ℕ) (text : List ℕ) (ps : List Pattern) → IsChoice d text ps → IsWhole d text (one_of ps) []
whole_choice d text ps w =
    let at_end : text ++ [] ≡ text = append-nil text in
    let start : IsLeft d text [] [] (text ++ []) = rw at_end (branches_start (factor_at d) _ text [] [] refl refl) in
    let open_at = w.reads text [] [] refl start in
    pattern_with-is (atom_at d) _ text
    ∙ branches_none (factor_at d) _ text open_at.closed open_at.pieces _ [] open_at.left refl
    ∙ ap (λ l. Ok (one_of l, [])) open_at.same

-- branches up to a closing bracket
closed_choice : (d : ℕ) (text rest : List ℕ) (ps : List Pattern) → IsChoice d text ps
    → IsWhole d (text ++ 41 ∷ rest) (one_of ps) (41 ∷ rest)
closed_choice d text rest ps w =
    let whole = text ++ 41 ∷ rest in
    let open_at = w.reads whole [] (41 ∷ rest) refl (branches_start (factor_at d) _ whole [] [] refl refl) in
    pattern_with-is (atom_at d) _ whole
    ∙ branches_end (factor_at d) _ whole open_at.closed open_at.pieces _ (41 ∷ rest) rest 41 refl open_at.left refl
    ∙ ap (λ l. Ok (one_of l, 41 ∷ rest)) open_at.same

inner_choice : (d left : ℕ) (text rest : List ℕ) (ps : List Pattern) → IsChoice d text ps
    → IsInner (suc d) left (text ++ 41 ∷ rest) (one_of ps) rest
unfolding inner_at
inner_choice d left text rest ps w = rw (closed_choice d text rest ps w) refl

-- a group is a piece
piece_of_group : (d : ℕ) (text more : List ℕ) (p : Pattern) → text ≡ 40 ∷ more
    → ((rest : List ℕ) → IsAtom d (text ++ rest) p rest)
    → IsPiece d text p
piece_of_group d text more p begins atom = record {
  first = 40;
  more = more;
  begins = begins;
  starts = refl;
  base = p;
  after = [];
  shorter = omega (arith, ap length begins);
  atom = atom;
  repeats = λ rest h. repeats_start p rest;
}

plain_group_atom : (d : ℕ) (t rest : List ℕ) (p : Pattern)
    → IsInner d (length (40 ∷ 63 ∷ 58 ∷ t)) t p rest → IsAtom d (40 ∷ 63 ∷ 58 ∷ t) p rest
unfolding atom_with pattern_group_with special_group_with name_mark_at
plain_group_atom d t rest p h = rw h refl

-- a group without a number is read as what stands in it
pub plain_group : (d : ℕ) (text : List ℕ) (ps : List Pattern) → IsChoice d text ps
    → IsPiece (suc d) (40 ∷ 63 ∷ 58 ∷ (text ++ 41 ∷ [])) (one_of ps)
plain_group d text ps w =
    piece_of_group (suc d) (40 ∷ 63 ∷ 58 ∷ (text ++ 41 ∷ [])) (63 ∷ 58 ∷ (text ++ 41 ∷ [])) (one_of ps) refl (λ rest.
    rw (append_assoc text (41 ∷ []) rest)
    (plain_group_atom (suc d) (text ++ 41 ∷ rest) rest (one_of ps) (inner_choice d _ text rest ps w)))

no_mark : (t : List ℕ) → has_no_repeat t ≡ true → after_at 63 t ≡ None
no_mark [] h = refl
no_mark (c ∷ t) h = let other : (c == 63) ≡ false = grind (arith, nat_tests) in rw other refl

number_group_atom : (d : ℕ) (t rest : List ℕ) (p : Pattern) → after_at 63 t ≡ None
    → IsInner d (length (40 ∷ t)) t p rest → IsAtom d (40 ∷ t) (Pattern.capture None p) rest
unfolding atom_with pattern_group_with
number_group_atom d t rest p none h = rw (none, h) refl

-- a group without a name
pub number_group : (d : ℕ) (text : List ℕ) (ps : List Pattern) → IsChoice d text ps
    → IsPiece (suc d) (40 ∷ (text ++ 41 ∷ [])) (Pattern.capture None (one_of ps))
number_group d text ps w =
    piece_of_group (suc d) (40 ∷ (text ++ 41 ∷ [])) (text ++ 41 ∷ []) (Pattern.capture None (one_of ps)) refl (λ rest.
    rw (append_assoc text (41 ∷ []) rest)
    (number_group_atom (suc d) (text ++ 41 ∷ rest) rest (one_of ps) (no_mark (text ++ 41 ∷ rest) (w.front (41 ∷ rest) refl))
    (inner_choice d _ text rest ps w)))

name_goes_on : (name cs t : List ℕ) → is_all_more cs ≡ true → group_name_from name (cs ++ 62 ∷ t) ≡ Ok (name ++ cs, t)
name_goes_on name [] t h = rw (append-nil name) refl
name_goes_on name (c ∷ cs) t h =
    let parts = and_parts (is_name_more c) (is_all_more cs) h in
    let is_more : is_name_more c ≡ true = parts.0 in
    let goes_on : (c == 62) ≡ false = grind (arith, nat_tests) in
    rw (goes_on, is_more)
    (name_goes_on (name ++ c ∷ []) cs t parts.1 ∙ ap (λ l. Ok (l, t)) (append_assoc name (c ∷ []) cs))

name_read : (name t : List ℕ) → is_group_name name ≡ true → group_name_at (name ++ 62 ∷ t) ≡ Ok (name, t)
unfolding group_name_at
name_read [] t h = absurd (cc)
name_read (c ∷ cs) t h =
    let parts = and_parts (is_name_start c) (is_all_more cs) h in
    rw (parts.0) (name_goes_on (c ∷ []) cs t parts.1)

named_group_atom : (d : ℕ) (name t rest : List ℕ) (p : Pattern) → is_group_name name ≡ true
    → IsInner d (length (40 ∷ 63 ∷ 80 ∷ 60 ∷ (name ++ 62 ∷ t))) t p rest
    → IsAtom d (40 ∷ 63 ∷ 80 ∷ 60 ∷ (name ++ 62 ∷ t)) (Pattern.capture (Some name) p) rest
unfolding atom_with pattern_group_with special_group_with name_mark_at
named_group_atom d name t rest p is h = rw (name_read name t is, h) refl

-- a group with a name
pub named_group : (d : ℕ) (name text : List ℕ) (ps : List Pattern) → is_group_name name ≡ true → IsChoice d text ps
    → IsPiece (suc d) (40 ∷ 63 ∷ 80 ∷ 60 ∷ (((name ++ 62 ∷ []) ++ text) ++ 41 ∷ [])) (Pattern.capture (Some name) (one_of ps))
named_group d name text ps is w =
    piece_of_group (suc d) (40 ∷ 63 ∷ 80 ∷ 60 ∷ (((name ++ 62 ∷ []) ++ text) ++ 41 ∷ []))
    (63 ∷ 80 ∷ 60 ∷ (((name ++ 62 ∷ []) ++ text) ++ 41 ∷ [])) (Pattern.capture (Some name) (one_of ps)) refl (λ rest.
    let shape : (((name ++ 62 ∷ []) ++ text) ++ 41 ∷ []) ++ rest ≡ name ++ 62 ∷ (text ++ 41 ∷ rest) =
    append_assoc ((name ++ 62 ∷ []) ++ text) (41 ∷ []) rest ∙ append_assoc (name ++ 62 ∷ []) text (41 ∷ rest)
    ∙ append_assoc name (62 ∷ []) (text ++ 41 ∷ rest) in
    rw shape
    (named_group_atom (suc d) name (text ++ 41 ∷ rest) rest (one_of ps) is (inner_choice d _ text rest ps w)))

-- what is behind the least count
abbrev behind_least : Option ℕ → Bool → List ℕ → List ℕ
behind_least max greedy rest = greatest_text max ++ 125 ∷ (lazy_mark greedy ++ rest)

least_first : (a b d rest : List ℕ)
    → ((((a ++ 44 ∷ []) ++ b) ++ 125 ∷ []) ++ d) ++ rest ≡ a ++ 44 ∷ (b ++ 125 ∷ (d ++ rest))
least_first a b d rest =
    append_assoc (((a ++ 44 ∷ []) ++ b) ++ 125 ∷ []) d rest ∙ append_assoc ((a ++ 44 ∷ []) ++ b) (125 ∷ []) (d ++ rest)
    ∙ append_assoc (a ++ 44 ∷ []) b (125 ∷ (d ++ rest)) ∙ append_assoc a (44 ∷ []) (b ++ 125 ∷ (d ++ rest))

bounds_front : (min : ℕ) (max : Option ℕ) (greedy : Bool) (rest : List ℕ)
    → bounds_text min max greedy ++ rest ≡ 123 ∷ (decimal min ++ 44 ∷ behind_least max greedy rest)
bounds_front min max greedy rest = ap (λ l. 123 ∷ l) (least_first (decimal min) (greatest_text max) (lazy_mark greedy) rest)

greatest_read : (left min : ℕ) (max : Option ℕ) (rest : List ℕ) → IfSome max (λ m. m ≤ 1000) → bounds_fall min max ≡ false
    → upper_at left min (greatest_text max ++ 125 ∷ rest) ≡ Ok ((min, max), rest)
unfolding upper_at
greatest_read left min None rest small rises = refl
greatest_read left min (Some m) rest small rises =
    rw (count_no_brace m (125 ∷ rest) small, count_read m 125 rest small refl, rises) refl

sign_read : (min : ℕ) (max : Option ℕ) (rest : List ℕ) → min ≤ 1000 → IfSome max (λ m. m ≤ 1000)
    → bounds_fall min max ≡ false
    → repeat_sign_at (123 ∷ (decimal min ++ 44 ∷ (greatest_text max ++ 125 ∷ rest))) ≡ Ok ((min, max), rest)
unfolding repeat_sign_at bounds_at
sign_read min max rest least greatest rises =
    rw (count_read min 44 (greatest_text max ++ 125 ∷ rest) least refl)
    (greatest_read _ min max rest greatest rises)

lazy_read : (greedy : Bool) (rest : List ℕ) → has_no_question rest ≡ true → greedy_at (lazy_mark greedy ++ rest) ≡ (greedy, rest)
lazy_read false rest h = refl
lazy_read true [] h = refl
lazy_read true (c ∷ t) h = let other : (c == 63) ≡ false = grind (arith, nat_tests) in rw other refl

bounds_read : (min : ℕ) (max : Option ℕ) (greedy : Bool) (rest : List ℕ) → min ≤ 1000 → IfSome max (λ m. m ≤ 1000)
    → bounds_fall min max ≡ false → has_no_question rest ≡ true
    → repeats_read (bounds_text min max greedy ++ rest) ≡ Ok ((min, (max, greedy)), rest)
unfolding repeats_read
bounds_read min max greedy rest least greatest rises h =
    rw (bounds_front min max greedy rest, sign_read min max (lazy_mark greedy ++ rest) least greatest rises, lazy_read greedy rest h) refl

-- a piece with bounds behind it is a piece
pub repeated_piece : (d : ℕ) (text : List ℕ) (p : Pattern) (min : ℕ) (max : Option ℕ) (greedy : Bool) → min ≤ 1000
    → IfSome max (λ m. m ≤ 1000) → bounds_fall min max ≡ false → IsPiece d text p
    → IsPiece d (text ++ bounds_text min max greedy) (Pattern.repetition min max greedy p)
repeated_piece d text p min max greedy least greatest rises w =
    let bounds = bounds_text min max greedy in
    record {
      first = w.first;
      more = w.more ++ bounds;
      begins = ap (λ l. l ++ bounds) w.begins;
      starts = w.starts;
      base = w.base;
      after = w.after ++ bounds;
      shorter = omega (arith, w.shorter, length-append w.after bounds, length-append text bounds);
      atom = λ rest.
          rw (append_assoc text bounds rest, append_assoc w.after bounds rest) (w.atom (bounds ++ rest));
      repeats = λ rest h.
          let whole = (w.after ++ bounds) ++ rest in
          let shape : whole ≡ w.after ++ (bounds ++ rest) = append_assoc w.after bounds rest in
          let before : IsRepeating w.base whole (bounds ++ rest) p = rw shape (w.repeats (bounds ++ rest) refl) in
          repeats_more w.base p whole (bounds ++ rest) _ 123 refl before (min, (max, greedy)) rest refl
          (bounds_read min max greedy rest least greatest rises h)
          (omega (
            arith,
            ap length (bounds_front min max greedy rest),
            length-append (decimal min) (44 ∷ behind_least max greedy rest),
            length-append (greatest_text max) (125 ∷ (lazy_mark greedy ++ rest)),
            length-append (lazy_mark greedy) rest,
          ));
    }
