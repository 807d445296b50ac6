-- Examples of entries that are listed again, of grammars in which a fault of the first pass stands, and of one in which none does.
use Prim.Native.String.{String}
use Rattle.std.proofs.Common.{◌≡◌, ◌∙◌, ℕ, List, [], ◌∷◌, ◌++◌, ap, sym, refl, inl, inr, map}
use Rattle.std.specs.Prelude.{◌==◌, true, false, Some, None, codes}
use Rattle.std.specs.Str.{bytes_eq}
use Rattle.std.proofs.lemmas.Slice.Eq.{bytes_eq-Decides}
use Rattle.lalrpop_norm_prevalidate.proofs.SetLemmas.{quoted_is, some_is, false_is_true}
use Rattle.lalrpop_grammar_symbols.specs.Symbols.{Text, TextSpan, Terminal}
use Rattle.lalrpop_grammar.specs.WrittenGrammar.{Attr, Grammar, WrittenEntry, WrittenItem}
use Rattle.lalrpop_grammar_language.specs.Among.{Among}
use Rattle.lalrpop_grammar_repr.specs.declared.norm_error.NormErrorKind.TheVariants as kinds
use Rattle.lalrpop_norm_prevalidate.specs.Entries.{literal_in_entry, entry_span, IsListedAgain, AreListedOnce, IsFirstAgain, IsEntryTwice}
use Rattle.lalrpop_norm_prevalidate.specs.Faults.{CheckStands, HasNoCheckFault}
use Rattle.lalrpop_norm_prevalidate.specs.Labels.{misplaced_in_rule, misplaced_in_alternative}
use Rattle.lalrpop_norm_prevalidate.specs.Names.{names_in_item, names_in_rule, names_in_alternative}
use Rattle.lalrpop_norm_prevalidate.proofs.AgainLemmas.{no_entries, one_entry_more}
use Rattle.lalrpop_norm_prevalidate.proofs.StandingLemmas.{none-stands, no-reserved-stands, reserved-stands}
use Rattle.lalrpop_norm_prevalidate.proofs.ExamplesOfChecks.{word, setting, with_parts, alternative, plain_alternative, rule, plain_rule}
use Rattle.lalrpop_norm_prevalidate.proofs.ExamplesOfChecks.{lit, named, chosen, user}

-- entries

abbrev quoted : ℕ → String → WrittenEntry
quoted p s = WrittenEntry.unmapped (Terminal.quoted (codes s)) (p, p)

abbrev regex : ℕ → String → WrittenEntry
regex p s = WrittenEntry.unmapped (Terminal.regex (codes s)) (p, p)

abbrev mapped : ℕ → String → Terminal → WrittenEntry
mapped p s t = WrittenEntry.mapped (Terminal.quoted (codes s)) t (p, p)

abbrev skip : ℕ → String → WrittenEntry
skip p s = WrittenEntry.skip (Terminal.quoted (codes s)) (p, p)

abbrev catch_all : ℕ → WrittenEntry
catch_all p = WrittenEntry.catch_all (p, p)

-- skipped, mapped or neither: what is listed is the literal
skipped_again : IsListedAgain (quoted 1 "a" ∷ skip 2 "a" ∷ []) (2, 2)
skipped_again = record {
  before = quoted 1 "a" ∷ [];
  later = skip 2 "a";
  after = [];
  whole = refl;
  listed = inl refl;
  place = refl;
}

mapped_again : IsListedAgain (mapped 1 "a" (Terminal.bare (codes "A")) ∷ quoted 2 "b" ∷ quoted 3 "a" ∷ catch_all 4 ∷ []) (3, 3)
mapped_again = record {
  before = mapped 1 "a" (Terminal.bare (codes "A")) ∷ quoted 2 "b" ∷ [];
  later = quoted 3 "a";
  after = catch_all 4 ∷ [];
  whole = refl;
  listed = inl refl;
  place = refl;
}

-- `_` in two match blocks, and a literal in two groups of one
catch_all_again : IsEntryTwice (WrittenItem.match_token ((catch_all 1 ∷ []) ∷ []) (0, 9)
    ∷ WrittenItem.match_token ([] ∷ (quoted 3 "b" ∷ catch_all 4 ∷ []) ∷ []) (2, 5) ∷ []) (4, 4)
catch_all_again = record {
  before = catch_all 1 ∷ quoted 3 "b" ∷ [];
  later = catch_all 4;
  after = [];
  whole = refl;
  listed = inl refl;
  place = refl;
}

again_in_a_group : IsEntryTwice (WrittenItem.match_token ((quoted 1 "a" ∷ []) ∷ (quoted 2 "a" ∷ []) ∷ []) (0, 3) ∷ []) (2, 2)
again_in_a_group = record {
  before = quoted 1 "a" ∷ [];
  later = quoted 2 "a";
  after = [];
  whole = refl;
  listed = inl refl;
  place = refl;
}

-- quoted texts that differ
different : (s t : Text) → bytes_eq s t ≡ false → Some (Terminal.quoted s) ≡ Some (Terminal.quoted t) → ⊥
different s t parted e = apart s t parted (quoted_is s t (some_is (Terminal.quoted s) (Terminal.quoted t) e))
  where
    apart : (s t : Text) → bytes_eq s t ≡ false → s ≡ t → ⊥
    apart s t parted e = false_is_true (sym parted ∙ (bytes_eq-Decides s t).1 e)

-- a text as a literal and as a pattern, and one as a literal and as what another becomes
a_literal_and_a_pattern : AreListedOnce (quoted 1 "a" ∷ regex 2 "a" ∷ [])
a_literal_and_a_pattern =
    one_entry_more (quoted 1 "a" ∷ []) (regex 2 "a") (one_entry_more [] (quoted 1 "a") no_entries (λ m. m)) other
  where
    other : Among (map literal_in_entry (quoted 1 "a" ∷ [])) (literal_in_entry (regex 2 "a")) → ⊥
    other (inl e) = cc
    other (inr m) = m

a_literal_and_a_target : AreListedOnce (mapped 1 "a" (Terminal.quoted (codes "b")) ∷ quoted 2 "b" ∷ catch_all 3 ∷ [])
a_literal_and_a_target =
    one_entry_more (mapped 1 "a" (Terminal.quoted (codes "b")) ∷ quoted 2 "b" ∷ []) (catch_all 3)
    (one_entry_more (mapped 1 "a" (Terminal.quoted (codes "b")) ∷ []) (quoted 2 "b")
    (one_entry_more [] (mapped 1 "a" (Terminal.quoted (codes "b"))) no_entries (λ m. m)) other)
    last
  where
    other : Among (map literal_in_entry (mapped 1 "a" (Terminal.quoted (codes "b")) ∷ [])) (literal_in_entry (quoted 2 "b")) → ⊥
    other (inl e) = different (codes "a") (codes "b") refl e
    other (inr m) = m

    last : Among (map literal_in_entry (mapped 1 "a" (Terminal.quoted (codes "b")) ∷ quoted 2 "b" ∷ []))
        (literal_in_entry (catch_all 3))
        → ⊥
    last (inl e) = cc
    last (inr (inl e)) = cc
    last (inr (inr m)) = m

-- the first that is listed again isn't the one whose literal stands first
abbrev four : List WrittenEntry
four = quoted 1 "a" ∷ quoted 2 "b" ∷ quoted 3 "b" ∷ quoted 4 "a" ∷ []

first_of_four : IsFirstAgain four (Some (3, 3))
first_of_four = (
  record {
    before = quoted 1 "a" ∷ quoted 2 "b" ∷ [];
    later = quoted 3 "b";
    after = quoted 4 "a" ∷ [];
    whole = refl;
    listed = inr (inl refl);
    place = refl;
  },
  one_entry_more (quoted 1 "a" ∷ []) (quoted 2 "b") (one_entry_more [] (quoted 1 "a") no_entries (λ m. m)) other,
)
  where
    other : Among (map literal_in_entry (quoted 1 "a" ∷ [])) (literal_in_entry (quoted 2 "b")) → ⊥
    other (inl e) = different (codes "a") (codes "b") refl e
    other (inr m) = m

-- refused: that nothing is listed again; the place of the earlier entry
not_nothing : IsFirstAgain four None → ⊥
not_nothing once = once (3, 3) (first_of_four.0)

not_the_earlier : IsListedAgain (quoted 1 "a" ∷ quoted 2 "a" ∷ []) (1, 1) → ⊥
not_the_earlier again = at again.before again.later again.after again.whole again.listed again.place
  where
    at : (before : List WrittenEntry) (later : WrittenEntry) (after : List WrittenEntry)
        → quoted 1 "a" ∷ quoted 2 "a" ∷ [] ≡ before ++ later ∷ after
        → Among (map literal_in_entry before) (literal_in_entry later)
        → entry_span later ≡ (1, 1) → ⊥
    at [] later after e m q = m
    at (x ∷ []) later after e m q =
        let is : quoted 2 "a" ≡ later = cc in false_is_true (ap (λ (p : TextSpan). p.0 == 1) (ap entry_span is ∙ q))
    at (x ∷ y ∷ []) later after e m q = cc
    at (x ∷ y ∷ z ∷ more) later after e m q = cc

-- whole grammars, with the prefix `__`

abbrev grammar : List Attr → List WrittenItem → Grammar
grammar attributes items = record {
  prefix = codes "__";
  span = (0, 99);
  parameters = codes "__p";
  type_parameters = codes "__t";
  where_clauses = codes "__w";
  attributes = attributes;
  items = items;
}

two_blocks : CheckStands kinds.SecondMatchBlock (3, 4)
    (grammar [] (WrittenItem.match_token [] (1, 2) ∷ WrittenItem.match_token [] (3, 4) ∷ []))
two_blocks = inl refl

-- told is the outermost attribute with its name
unknown_part : CheckStands (kinds.UnknownAttribute (codes "cfg")) (2, 2)
    (grammar (word 1 "LALR" ∷ with_parts 2 "cfg" (setting 3 "feature" "x" ∷ []) ∷ []) [])
unknown_part = record { attribute = with_parts 2 "cfg" (setting 3 "feature" "x" ∷ []); among = inl refl; id = refl; place = refl }

public_inline_rule : CheckStands kinds.PublicInline (7, 7)
    (grammar [] (WrittenItem.nonterminal (rule true 7 "S" (word 8 "inline" ∷ []) [] None []) ∷ []))
public_inline_rule = inl refl

abbrev reserved_rule : Grammar
reserved_rule = grammar [] (WrittenItem.nonterminal (rule true 7 "__S" [] [] None []) ∷ [])

reserved_name : CheckStands kinds.ReservedPrefix (7, 7) reserved_rule
unfolding names_in_item names_in_rule
reserved_name = reserved-stands reserved_rule (7, 7) refl

beside_a_choice : CheckStands kinds.NamedNotAllowed (1, 1)
    (grammar [] (plain_rule [] (alternative [] user None (named 1 "a" (lit 2 "x") ∷ chosen 3 (lit 4 "y") ∷ []) ∷ []) ∷ []))
unfolding misplaced_in_rule misplaced_in_alternative
beside_a_choice = inl refl

entry_again : CheckStands kinds.EntryTwice (2, 2)
    (grammar [] (WrittenItem.match_token ((quoted 1 "a" ∷ quoted 2 "a" ∷ []) ∷ []) (0, 3) ∷ []))
entry_again = record {
  before = quoted 1 "a" ∷ [];
  later = quoted 2 "a";
  after = [];
  whole = refl;
  listed = inl refl;
  place = refl;
}

-- an unreserved rule that is disabled has its attributes looked at, too
disabled_part : CheckStands (kinds.UnknownAttribute (codes "inline")) (3, 3)
    (grammar [] (plain_rule (with_parts 1 "cfg" (setting 2 "feature" "x" ∷ []) ∷ [])
    (plain_alternative (word 3 "inline" ∷ []) ∷ []) ∷ []))
disabled_part = record { attribute = word 3 "inline"; among = inl refl; id = refl; place = refl }

-- none stands: the grammar's texts are no names
abbrev right_grammar : Grammar
right_grammar = grammar (word 1 "LALR" ∷ []) (plain_rule [] (plain_alternative [] ∷ []) ∷ [])

right : HasNoCheckFault right_grammar
unfolding names_in_item names_in_rule names_in_alternative misplaced_in_rule misplaced_in_alternative
right =
    none-stands right_grammar (λ p m. m) (λ name p h. h.among) (λ p m. m) (no-reserved-stands right_grammar refl) labels
    no_entries
  where
    labels : (p : TextSpan) → CheckStands kinds.NamedNotAllowed p right_grammar → ⊥
    labels p m = m
