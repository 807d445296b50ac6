-- Examples of grammars in which a fault of the token check stands, with wrong answers, and of one in which none stands.
use Rattle.std.proofs.Common.{◌≡◌, ◌∙◌, ℕ, zero, suc, ◌<◌, ◌≤◌, List, [], ◌∷◌, ◌++◌, ap, sym, subst, refl}
use Rattle.std.proofs.Common.{inl, inr, arith, lit<, lit≤}
use Rattle.std.specs.Prelude.{◌==◌, true, false, Option, Some, None, codes, slice_index}
use Rattle.std.specs.Str.{chars}
use Rattle.std.proofs.lemmas.Bool.Decides.{Decides-eqb}
use Rattle.lalrpop_grammar_symbols.specs.Symbols.{TextSpan, Terminal, Sym}
use Rattle.lalrpop_grammar_symbols.specs.declared.terminal.TerminalLiteral.TheVariants as literals
use Rattle.lalrpop_grammar.specs.WrittenGrammar.{Action, Grammar, InternEntry, Origin, Rule, WrittenItem}
use Rattle.lalrpop_grammar_repr.specs.declared.norm_error.NormErrorKind.TheVariants as kinds
use Rattle.lalrpop_lexer_pattern.specs.Matches.{Pattern}
use Rattle.lalrpop_lexer_pattern.specs.Wins.{ComesBefore, HasNoTie, IsFirstTie, MatchesAt, Ties}
use Rattle.lalrpop_lexer_regex.specs.Atoms.{one_character, plain_atom_at}
use Rattle.lalrpop_lexer_regex.specs.Patterns.{atom_with, branches_from, factor_with, inner_at, pattern_group_with, pattern_with}
use Rattle.lalrpop_lexer_regex.specs.Patterns.{repeats_from}
use Rattle.lalrpop_lexer_regex.specs.Regex.{whole_pattern}
use Rattle.lalrpop_lexer_scan.specs.Literals.{first_span, uses_in_grammar, use_at}
use Rattle.lalrpop_norm_token_check.specs.Blocks.{block_groups, first_lacking}
use Rattle.lalrpop_norm_token_check.specs.Checked.{IsTokenChecked}
use Rattle.lalrpop_norm_token_check.specs.Entries.{AreFullEntries, AreUsed}
use Rattle.lalrpop_norm_token_check.specs.Faults.{TokenFaultInExpanded}
use Rattle.lalrpop_norm_token_check.specs.Patterns.{first_refused}
use Rattle.lalrpop_norm_token_check.specs.Places.{FirstPlaces}
use Rattle.lalrpop_norm_token_check.proofs.ExamplesOfEntries.{bare, grammar, itself, quoted, regex, to, token}
use Rattle.lalrpop_norm_token_check.proofs.FaultLemmas.{checked_entries}
use Rattle.lalrpop_norm_token_check.proofs.UniqueLemmas.{entries_unique, none_is_some, used_unique}
use Rattle.lalrpop_norm_prevalidate.proofs.SetLemmas.{false_is_true}

differ : (m n : ℕ) → m ≡ n → (m == n) ≡ false → ⊥
differ m n e h = false_is_true (sym h ∙ (Decides-eqb m n).1 e)

abbrev first_byte : Option Terminal → ℕ
first_byte (Some (Terminal.quoted (c ∷ t))) = c
first_byte (Some (Terminal.regex (c ∷ t))) = c
first_byte _ = 0

-- `match { "a" } pub S = "b"`
abbrev rule : Rule
rule = record {
  public = true;
  name = codes "S";
  attributes = [];
  span = (20, 30);
  parameters = [];
  declared = None;
  alternatives = record {
    span = (24, 27);
    expr = Sym.terminal (24, 27) (quoted "b") ∷ [];
    condition = None;
    action = Action.default;
    attributes = [];
    origin = Origin.alternative (codes "S") [] 0;
  } ∷ [];
}

abbrev lacking : Grammar
lacking = grammar (WrittenItem.match_token ((itself 7 (quoted "a") ∷ []) ∷ []) (5, 9) ∷ WrittenItem.nonterminal rule ∷ [])

abbrev at_first : Grammar → FirstPlaces
at_first g l = first_span (uses_in_grammar g) l

used_b : AreUsed lacking (quoted "b" ∷ [])
used_b = record {
  uses = use_at (quoted "b") (24, 27) ∷ [];
  each_once = record { ascending = (tt, tt); each = λ t. refl };
  literals = refl;
}

lacks_b : TokenFaultInExpanded (at_first lacking) (kinds.NotInMatchBlock (literals.Quoted (codes "b"))) (24, 27) lacking
lacks_b = record { used = quoted "b" ∷ []; are_used = used_b; first_is = refl; place = refl }

-- not at the grammar, and not of the literal that stands in the block
lacks_b_elsewhere : TokenFaultInExpanded (at_first lacking) (kinds.NotInMatchBlock (literals.Quoted (codes "b"))) (0, 99) lacking → ⊥
lacks_b_elsewhere h = differ 24 0 (ap (λ (p : TextSpan). p.0) h.place) refl

lacks_a : (p : TextSpan) → TokenFaultInExpanded (at_first lacking) (kinds.NotInMatchBlock (literals.Quoted (codes "a"))) p lacking → ⊥
lacks_a p h =
    let same = used_unique lacking h.used (quoted "b" ∷ []) h.are_used used_b in
    differ 98 97 (ap first_byte (sym (ap (first_lacking (block_groups lacking.items)) same) ∙ h.first_is)) refl

-- `match { r"(" => A, r")" => B }`, at its first entry
abbrev refused : Grammar
refused = grammar (WrittenItem.match_token ((to 7 (regex "(") (bare "A") ∷ to 8 (regex ")") (bare "B") ∷ []) ∷ []) (5, 9) ∷ [])

abbrev refused_entries : List InternEntry
refused_entries = token 2 (regex "(") (bare "A") ∷ token 2 (regex ")") (bare "B") ∷ []

nothing_used : (g : Grammar) → uses_in_grammar g ≡ [] → AreUsed g []
nothing_used g e = record {
  uses = [];
  each_once = record { ascending = tt; each = λ t. sym (ap (λ us. first_span us t) e) };
  literals = refl;
}

refused_full : AreFullEntries refused refused_entries
refused_full = record {
  listed = record { used = []; are_used = nothing_used refused refl; entries_are = refl };
  none_lacks = refl;
}

first_is_refused : first_refused refused_entries ≡ Some (regex "(")
unfolding chars whole_pattern pattern_with branches_from factor_with atom_with pattern_group_with inner_at plain_atom_at
    one_character repeats_from
first_is_refused = refl

refuses_first : TokenFaultInExpanded (at_first refused) (kinds.PatternRefused (literals.Regex (codes "("))) (7, 7) refused
refuses_first = record { entries = refused_entries; are_full = refused_full; first_is = first_is_refused; place = refl }

-- not the second, and no literal is lacking
refuses_second : (p : TextSpan) → TokenFaultInExpanded (at_first refused) (kinds.PatternRefused (literals.Regex (codes ")"))) p refused → ⊥
refuses_second p h =
    let same = entries_unique refused h.entries refused_entries h.are_full.listed refused_full.listed in
    differ 40 41 (ap first_byte (sym first_is_refused ∙ sym (ap first_refused same) ∙ h.first_is)) refl

refuses_as_lacking : (p : TextSpan)
    → TokenFaultInExpanded (at_first refused) (kinds.NotInMatchBlock (literals.Regex (codes "("))) p refused → ⊥
refuses_as_lacking p h =
    let same = used_unique refused h.used [] h.are_used (nothing_used refused refl) in
    none_is_some (regex "(") (sym (ap (first_lacking (block_groups refused.items)) same) ∙ h.first_is)

-- `match { "a" => A, "a" => B }`: both match `a` with one precedence
abbrev tied : Grammar
tied = grammar (WrittenItem.match_token ((to 7 (quoted "a") (bare "A") ∷ to 8 (quoted "a") (bare "B") ∷ []) ∷ []) (5, 9) ∷ [])

abbrev tied_entries : List InternEntry
tied_entries = token 3 (quoted "a") (bare "A") ∷ token 3 (quoted "a") (bare "B") ∷ []

tied_full : AreFullEntries tied tied_entries
tied_full = record {
  listed = record { used = []; are_used = nothing_used tied refl; entries_are = refl };
  none_lacks = refl;
}

abbrev both : List Pattern
both = Pattern.literal (97 ∷ []) ∷ Pattern.literal (97 ∷ []) ∷ []

matched_word : (g : ℕ) (w : List ℕ) → MatchesAt both g w → w ≡ 97 ∷ []
matched_word zero w m = m.1
matched_word (suc zero) w m = m.1
matched_word (suc (suc g)) w m = let e : suc (suc g) < 2 = m.0 in absurd (omega arith)

greatest_of_both : (g : ℕ) → MatchesAt both g (97 ∷ []) → slice_index (3 ∷ 3 ∷ []) g ≤ 3
greatest_of_both zero m = lit≤ tt
greatest_of_both (suc zero) m = lit≤ tt
greatest_of_both (suc (suc g)) m = let e : suc (suc g) < 2 = m.0 in absurd (omega arith)

not_before : (v : List ℕ) → v ≡ 97 ∷ [] → ComesBefore v (97 ∷ []) → ⊥
not_before v e h = itself_before (subst (λ x. ComesBefore x (97 ∷ [])) e h)
  where
    itself_before : ComesBefore (97 ∷ []) (97 ∷ []) → ⊥
    itself_before (inl k) = absurd (omega arith)
    itself_before (inr (q, inl k)) = absurd (omega arith)
    itself_before (inr (q, inr k)) = k.1

ties_at_a : Ties both (3 ∷ 3 ∷ []) (97 ∷ []) 0 1
ties_at_a = record {
  apart = lit< tt;
  first = (lit< tt, refl);
  second = (lit< tt, refl);
  same = refl;
  greatest = greatest_of_both;
}

last_of_both : (w : List ℕ) (g h : ℕ) → Ties both (3 ∷ 3 ∷ []) w g h → (h ≤ 1) × (h ≡ 1 → g ≤ 0)
last_of_both w g h t = let inside : h < 2 = t.second.0 in let apart : g < h = t.apart in (omega arith, λ e. omega arith)

first_tie : IsFirstTie both (3 ∷ 3 ∷ []) (97 ∷ []) 0 1
first_tie = record {
  ties = ties_at_a;
  last = last_of_both (97 ∷ []);
  first = λ v g h t before. not_before v (matched_word g v t.first) before;
}

ties_both : TokenFaultInExpanded (at_first tied) (kinds.SameText (literals.Quoted (codes "a")) (literals.Quoted (codes "a"))) (7, 7) tied
unfolding chars
ties_both = record {
  entries = tied_entries;
  are_full = tied_full;
  none_refused = refl;
  tied = record { word = 97 ∷ []; one = 0; two = 1; tie = first_tie; first_is = refl; second_is = refl };
  place = refl;
}

-- not at the second entry, and none of the two is refused
ties_at_second : TokenFaultInExpanded (at_first tied) (kinds.SameText (literals.Quoted (codes "a")) (literals.Quoted (codes "a")))
    (8, 8) tied → ⊥
ties_at_second h = differ 7 8 (ap (λ (p : TextSpan). p.0) h.place) refl

ties_as_refused : (p : TextSpan) → TokenFaultInExpanded (at_first tied) (kinds.PatternRefused (literals.Quoted (codes "a"))) p tied → ⊥
ties_as_refused p h =
    let same = entries_unique tied h.entries tied_entries h.are_full.listed tied_full.listed in
    none_is_some (quoted "a") (sym (ap first_refused same) ∙ h.first_is)

-- a grammar without rules gets no entry, and no fault stands in it
abbrev nothing : Grammar
nothing = grammar []

nothing_full : AreFullEntries nothing []
nothing_full = record {
  listed = record { used = []; are_used = nothing_used nothing refl; entries_are = refl };
  none_lacks = refl;
}

no_ties : HasNoTie [] []
no_ties w e f t = let inside : e < 0 = t.first.0 in absurd (omega arith)

nothing_checked : IsTokenChecked (at_first nothing) nothing (grammar (WrittenItem.intern_token [] ∷ []))
nothing_checked = record {
  entries = [];
  are_checked = checked_entries (at_first nothing) nothing [] refl no_ties nothing_full;
  whole = refl;
}

-- the item isn't left out
nothing_unchanged : IsTokenChecked (at_first nothing) nothing nothing → ⊥
nothing_unchanged h = none_left [] h.whole
  where
    none_left : (items : List WrittenItem) → nothing ≡ grammar (items ++ WrittenItem.intern_token h.entries ∷ []) → ⊥
    none_left [] e = let items : [] ≡ WrittenItem.intern_token h.entries ∷ [] = ap (λ (g : Grammar). g.items) e in absurd (cc)
    none_left (i ∷ is) e =
        let items : [] ≡ i ∷ (is ++ WrittenItem.intern_token h.entries ∷ []) = ap (λ (g : Grammar). g.items) e in absurd (cc)
