-- What is noted of entries one behind the other; for the noting of a match block.
use Rattle.std.proofs.Common.{append-nil, append_assoc, ◌≡◌, ◌∙◌, ap, sym, refl, subst, List, [], ◌∷◌, ◌++◌}
use Rattle.std.proofs.Common.{Bool, true, false, cond}
use Rattle.std.specs.Prelude.{◌||◌, filter_map, Option, Some, None, if◌then◌else◌}
use Rattle.std.specs.Borrow.{Bor}
use Rattle.std.specs.BTreeSet.{contains}
use Rattle.std.specs.BTreeMap.{is_at}
use Rattle.std.specs.List.{list_any}
use Rattle.std.specs.Ordering.{is_eq}
use Rattle.std.proofs.lemmas.List.Elements.{filter_map-append}
use Rattle.std.proofs.lemmas.List.Folds.{list_any-append}
use Rattle.std.proofs.lemmas.Map.Text.{is_eq-slice_cmp}
use Rattle.lalrpop_grammar_symbols.specs.Symbols.{Terminal, TextSpan}
use Rattle.lalrpop_grammar_symbols.specs.Views.{literal_view, terminal_view}
use Rattle.lalrpop_grammar_symbols.specs.declared.span.Span.{Span}
use Rattle.lalrpop_grammar_symbols.specs.contracts.terminal.TerminalLiteralOrd.TheImpl as literals
use Rattle.lalrpop_grammar_symbols.specs.declared.terminal.TerminalLiteral.{TerminalLiteral}
use Rattle.lalrpop_grammar_symbols.specs.declared.terminal.TerminalLiteral.TheVariants as variants
use Rattle.lalrpop_grammar.specs.WrittenGrammar.{EntryMapping, WrittenEntry}
use Rattle.lalrpop_grammar.specs.Views.{entry_mapping_view, mapping_view}
use Rattle.lalrpop_grammar.specs.declared.match_token.MatchMapping.{MatchMapping}
use Rattle.lalrpop_grammar.specs.declared.match_token.MatchMapping.TheVariants as mappings
use Rattle.lalrpop_lexer_scan.specs.Literals.{same_terminal}
use Rattle.lalrpop_norm_prevalidate.specs.Entries.{literal_in_entry}
use Rattle.lalrpop_norm_token_check.specs.declared.noting.Noted.{Noted}
use Rattle.lalrpop_norm_token_check.specs.Blocks.{entries_in_groups, has_terminal, is_catch_all, is_mapped_to, literal_given}
use Rattle.lalrpop_norm_token_check.specs.Blocks.{literal_in_terminal, literal_mapped, literal_turned}
use Rattle.lalrpop_norm_token_check.specs.Noting.{literals_of, list_unless, LiteralSet, literal_cmp, Adds, NotesEntries, HasNoted}
use Rattle.lalrpop_grammar_symbols.proofs.BoolLemmas.{or_false}

or_assoc : (a b c : Bool) → ((a || b) || c) ≡ (a || (b || c))
or_assoc true b c = refl
or_assoc false b c = refl

-- nothing is added
pub adds_nothing : (s : LiteralSet) → Adds s s []
adds_nothing s q = sym (or_false (contains literal_cmp s q))

-- what is added, and then more
pub adds_more : (a b c : LiteralSet) (xs ys : List Terminal) → Adds a b xs → Adds b c ys → Adds a c (xs ++ ys)
adds_more a b c xs ys h k q =
    k q ∙ ap (λ x. x || has_terminal ys (literal_view q.now)) (h q)
    ∙ or_assoc (contains literal_cmp a q) (has_terminal xs (literal_view q.now)) (has_terminal ys (literal_view q.now))
    ∙ ap (λ x. contains literal_cmp a q || x) (sym (list_any-append (λ t. same_terminal t (literal_view q.now)) xs ys))

-- how literals are compared
same_literal : (a b : TerminalLiteral) → is_eq ((literals.ghosts).cmp a b) ≡ same_terminal (literal_view a) (literal_view b)
same_literal (variants.Quoted s) (variants.Quoted t) = is_eq-slice_cmp s t
same_literal (variants.Quoted s) (variants.Regex t) = refl
same_literal (variants.Regex s) (variants.Quoted t) = refl
same_literal (variants.Regex s) (variants.Regex t) = is_eq-slice_cmp s t

either_way : (b c d : Bool) → b ≡ d → cond b true c ≡ (c || (d || false))
either_way true true true e = refl
either_way true false true e = refl
either_way true true false e = refl
either_way true false false e = e
either_way false true d e = refl
either_way false false true e = e
either_way false false false e = refl

-- a key is added
pub added : (s n : LiteralSet) (k : Bor TerminalLiteral)
    → ((q : Bor TerminalLiteral) → contains literal_cmp n q ≡ cond (is_eq (literal_cmp k q)) true (contains literal_cmp s q))
    → Adds s n (literal_view k.now ∷ [])
added s n k updates q =
    updates q
    ∙ either_way (is_eq (literal_cmp k q)) (contains literal_cmp s q) (same_terminal (literal_view k.now) (literal_view q.now))
    (same_literal k.now q.now)

-- no entry is noted
pub notes_nothing : (a : Noted) → NotesEntries a a []
notes_nothing a = record {
  listed = adds_nothing a.listed;
  given = adds_nothing a.given;
  turned = adds_nothing a.turned;
  rest = sym (or_false a.has_rest);
}

-- some entries, and then more
pub notes_more : (a b c : Noted) (es fs : List WrittenEntry) → NotesEntries a b es → NotesEntries b c fs → NotesEntries a c (es ++ fs)
notes_more a b c es fs h k = record {
  listed = subst (Adds a.listed c.listed) (sym (filter_map-append literal_in_entry es fs))
      (adds_more a.listed b.listed c.listed (filter_map literal_in_entry es) (filter_map literal_in_entry fs) h.listed k.listed);
  given = subst (Adds a.given c.given) (sym (filter_map-append literal_given es fs))
      (adds_more a.given b.given c.given (filter_map literal_given es) (filter_map literal_given fs) h.given k.given);
  turned = subst (Adds a.turned c.turned) (sym (filter_map-append literal_turned es fs))
      (adds_more a.turned b.turned c.turned (filter_map literal_turned es) (filter_map literal_turned fs) h.turned k.turned);
  rest = k.rest ∙ ap (λ x. x || list_any is_catch_all fs) h.rest
      ∙ or_assoc a.has_rest (list_any is_catch_all es) (list_any is_catch_all fs)
      ∙ ap (λ x. a.has_rest || x) (sym (list_any-append is_catch_all es fs));
}

none_in : (s : LiteralSet) (q : Bor TerminalLiteral) → s.keys ≡ [] → contains literal_cmp s q ≡ false
none_in s q e = ap (list_any (is_at (literal_cmp q))) e

-- what was noted where nothing was noted before
pub noted_whole : (a b : Noted) (es : List WrittenEntry) → a.listed.keys ≡ [] → a.given.keys ≡ [] → a.turned.keys ≡ []
    → a.has_rest ≡ false → NotesEntries a b es → HasNoted b es
noted_whole a b es no_listed no_given no_turned no_rest h = record {
  listed = λ q. h.listed q
      ∙ ap (λ x. x || has_terminal (filter_map literal_in_entry es) (literal_view q.now)) (none_in a.listed q no_listed);
  given = λ q. h.given q
      ∙ ap (λ x. x || has_terminal (filter_map literal_given es) (literal_view q.now)) (none_in a.given q no_given);
  turned = λ q. h.turned q
      ∙ ap (λ x. x || has_terminal (filter_map literal_turned es) (literal_view q.now)) (none_in a.turned q no_turned);
  rest = h.rest ∙ ap (λ x. x || list_any is_catch_all es) no_rest;
}

-- a mapped entry
pub notes_mapped : (a b : Noted) (l : TerminalLiteral) (m : MatchMapping) (p : Span)
    → Adds a.listed b.listed (literal_view l ∷ []) → Adds a.given b.given (literals_of (literal_mapped (entry_mapping_view m)))
    → Adds a.turned b.turned (list_unless (is_mapped_to (literal_view l) (entry_mapping_view m)) (literal_view l))
    → b.has_rest ≡ a.has_rest → NotesEntries a b (mapping_view l m p ∷ [])
notes_mapped a b l mappings.Skip p listed given turned same =
    record { listed = listed; given = given; turned = turned; rest = same ∙ sym (or_false a.has_rest) }
notes_mapped a b l (mappings.Terminal t) p listed given turned same = record {
  listed = listed;
  given = given_one (literal_in_terminal (terminal_view t)) given;
  turned = turned_one (is_mapped_to (literal_view l) (EntryMapping.terminal (terminal_view t))) turned;
  rest = same ∙ sym (or_false a.has_rest);
}
  where
    given_one : (o : Option Terminal) → Adds a.given b.given (literals_of o)
        → Adds a.given b.given (filter_map (λ (x : Option Terminal). x) (o ∷ []))
    given_one None h = h
    given_one (Some t) h = h

    turned_one : (b' : Bool) → Adds a.turned b.turned (list_unless b' (literal_view l))
        → Adds a.turned b.turned (filter_map (λ (x : Bool). if x then None else Some (literal_view l)) (b' ∷ []))
    turned_one true h = h
    turned_one false h = h

-- one group more
pub groups_more : (gs : List (List WrittenEntry)) (g : List WrittenEntry)
    → entries_in_groups (gs ++ g ∷ []) ≡ entries_in_groups gs ++ g
groups_more [] g = append-nil g
groups_more (h ∷ gs) g = ap (λ l. h ++ l) (groups_more gs g) ∙ sym (append_assoc h (entries_in_groups gs) g)

-- an entry that stands for itself
pub notes_unmapped : (a b : Noted) (l : Terminal) (p : TextSpan) → Adds a.listed b.listed (l ∷ []) → Adds a.given b.given (l ∷ [])
    → b.turned ≡ a.turned → b.has_rest ≡ a.has_rest → NotesEntries a b (WrittenEntry.unmapped l p ∷ [])
notes_unmapped a b l p listed given turned same = record {
  listed = listed;
  given = given;
  turned = subst (λ s. Adds a.turned s []) (sym turned) (adds_nothing a.turned);
  rest = same ∙ sym (or_false a.has_rest);
}
