-- One group of entries more; for the making of a tokenizer's entries.
use Rattle.std.proofs.Common.{◌≡◌, ◌∙◌, ◌+◌, ap, sym, List, ◌∷◌, ◌++◌, length, map, append_assoc}
use Rattle.std.proofs.lemmas.List.{length-map}
use Rattle.std.specs.Prelude.{flat_map}
use Rattle.lalrpop_grammar_symbols.specs.Symbols.{Terminal}
use Rattle.lalrpop_grammar.specs.Views.{match_item_view}
use Rattle.lalrpop_grammar.specs.WrittenGrammar.{InternEntry, WrittenEntry}
use Rattle.lalrpop_grammar.specs.declared.match_token.MatchContents.{MatchContents}
use Rattle.lalrpop_norm_token_check.specs.Entries.{entries_for, entries_of_groups}

-- the entries of a group of a match block, as definitions see them
abbrev pub group_view : MatchContents → List WrittenEntry
group_view g = map match_item_view g.items

-- the first group's entries stand behind those that were there, in front of those of the groups behind it
pub group_moved : (others : List Terminal) (there new whole : List InternEntry) (rest behind : List MatchContents) (x : MatchContents)
    → rest ≡ x ∷ behind → length behind + 1 ≡ length rest → whole ≡ there ++ entries_of_groups others (map group_view rest)
    → new ≡ there ++ flat_map (entries_for (length rest) others) (group_view x)
    → whole ≡ new ++ entries_of_groups others (map group_view behind)
group_moved others there new whole rest behind x is size before after =
    before ∙ ap (λ r. there ++ entries_of_groups others (map group_view r)) is
    ∙ ap (λ n. there ++ (flat_map (entries_for n others) (group_view x) ++ entries_of_groups others (map group_view behind)))
    (ap (λ n. n + 1) (length-map behind group_view) ∙ size)
    ∙ sym (append_assoc there (flat_map (entries_for (length rest) others) (group_view x))
    (entries_of_groups others (map group_view behind)))
    ∙ ap (λ l. l ++ entries_of_groups others (map group_view behind)) (sym after)
