-- What is told of how many states and conflicts there are.
use Rattle.std.specs.Prelude.{ℕ, ◌++◌, List, codes, decimal, if◌then◌else◌, nat_eq}
use Rattle.lalrpop_plain_tables.specs.declared.answers.counts.Counts.{Counts}

-- how many conflicts there are, in words where there is none
abbrev pub conflict_count_text : ℕ → List ℕ
conflict_count_text n = if nat_eq n 0 then codes "no conflict" else (decimal n ++ codes " conflicts")

abbrev pub counts_text : Counts → List ℕ
counts_text counts =
    decimal counts.canonical ++ codes " canonical states, " ++ decimal counts.collapsed ++ codes " collapsed, "
    ++ decimal counts.without ++ codes " without lookaheads; " ++ conflict_count_text counts.conflicts
