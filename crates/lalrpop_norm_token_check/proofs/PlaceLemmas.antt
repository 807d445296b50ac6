-- Which entry lists a literal, and where it stands; for the places that are told.
use Rattle.std.proofs.Common.{◌≡◌, ◌∙◌, ap, refl, true, false, cond, List, [], ◌∷◌, ◌++◌}
use Rattle.std.specs.Option.{option_or}
use Rattle.std.specs.Prelude.{Option, Some, None}
use Rattle.lalrpop_grammar_symbols.specs.Symbols.{TextSpan, Terminal}
use Rattle.lalrpop_grammar.specs.WrittenGrammar.{WrittenEntry}
use Rattle.lalrpop_norm_prevalidate.specs.Entries.{literal_in_entry, entry_span}
use Rattle.lalrpop_norm_token_check.specs.Blocks.{is_option_of}
use Rattle.lalrpop_norm_token_check.specs.Places.{listed_at}

listed_at-append : (es fs : List WrittenEntry) (l : Terminal) → listed_at (es ++ fs) l ≡ option_or (listed_at es l) (listed_at fs l)
listed_at-append [] fs l = refl
listed_at-append (e ∷ es) fs l =
    elim (is_option_of l (literal_in_entry e)) as
    (λ b. cond b (Some (entry_span e)) (listed_at (es ++ fs) l)
    ≡ option_or (cond b (Some (entry_span e)) (listed_at es l)) (listed_at fs l))
    [ true ↦ refl | false ↦ listed_at-append es fs l ]

-- the first group lists the literal, or else the others do
pub group_lists : (es fs : List WrittenEntry) (l : Terminal) (p : TextSpan) → listed_at es l ≡ Some p
    → listed_at (es ++ fs) l ≡ Some p
group_lists es fs l p h = listed_at-append es fs l ∙ ap (λ (o : Option TextSpan). option_or o (listed_at fs l)) h

-- the first group doesn't list the literal
pub group_lists_not : (es fs : List WrittenEntry) (l : Terminal) → listed_at es l ≡ None → listed_at (es ++ fs) l ≡ listed_at fs l
group_lists_not es fs l h = listed_at-append es fs l ∙ ap (λ (o : Option TextSpan). option_or o (listed_at fs l)) h
