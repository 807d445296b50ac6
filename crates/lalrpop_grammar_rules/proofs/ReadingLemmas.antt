-- A compiled expression finds what the grammar's reading of its text finds: for the search.
use Rattle.std.proofs.Common.{◌≡◌, ◌≢◌, ◌≤◌, ◌<◌, ◌⊎◌, ℕ, Bool, true, false, List, length, Option, Some, None}
use Rattle.std.proofs.Common.{All, IsSomeAnd, IfSome, inl, inr, refl, ap, sym, ◌∙◌, arith}
use Rattle.std.proofs.lemmas.Bool.Decides.{nat_tests}
use Rattle.std.proofs.lemmas.Bool.{lt-ltb}
use Rattle.std.specs.Prelude.{Result, Ok, Err, IfOk, option_map, is_some}
use Rattle.regex_hir.specs.Re.{Re}
use Rattle.regex_hir.specs.Meaning.{meaning}
use Rattle.regex_hir.specs.declared.hir.Hir.{Hir}
use Rattle.regex_hir.specs.Find.{find_str}
use Rattle.regex_syntax.specs.Brackets.{Nested}
use Rattle.regex_syntax.specs.Captures.{SameCaptures}
use Rattle.regex_syntax.specs.Grammar.{Names, group_count}
use Rattle.regex_syntax.specs.Verdict.{Reads, Refuses, default_config}
use Rattle.regex_syntax.specs.declared.error.ErrorKind.{ErrorKind}
use Rattle.regex_syntax.specs.declared.error.ErrorKind.TheVariants.{OutOfMemory, NestLimitExceeded}
use Rattle.regex_syntax.proofs.CapturesLemmas.{find_str_alike, spans}
use Rattle.regex_syntax.proofs.Written.{is_some-option_map}
use Rattle.lalrpop_grammar_rules.specs.Finding.{IsFinding, IsReadPattern, IsUnread}
use Rattle.lalrpop_grammar_rules.specs.declared.closed.condition.Finding.{Finding}
use Rattle.lalrpop_grammar_rules.specs.Search.{deeper, finding_of, finds, is_too_deep, search_pattern}

by_reading : (o : Option (Nested Re × Names)) (a : Re) (most : ℕ) (names : Names) (text : List ℕ) → All (λ x. x < 256) text
    → IsSomeAnd o (λ (re, found). (re.depth ≤ most) × SameCaptures a re.value × (names ≡ found)
    × (group_count a ≤ length names))
    → option_map (λ p. is_some (find_str p.0.value text 0)) o ≡ Some (is_some (find_str a text 0))
by_reading None a most names text bytes reads = absurd reads
by_reading (Some p) a most names text bytes reads =
    let same = find_str_alike a p.0.value reads.1 text bytes 0 in
    ap (λ b. Some b) (sym (is_some-option_map spans (find_str p.0.value text 0)) ∙ ap is_some (sym same)
    ∙ is_some-option_map spans (find_str a text 0))

-- what is compiled from the pattern's text finds what the pattern finds
pub finds_read : (pattern text : List ℕ) (hir : Hir) (names : Names) → All (λ x. x < 256) text
    → Reads default_config pattern hir names
    → finds pattern text ≡ Some (is_some (find_str (meaning hir) text 0))
unfolding Reads
finds_read pattern text hir names bytes reads =
    by_reading (search_pattern pattern) (meaning hir) default_config.nest_limit names text bytes reads

by_refusal : (text : List ℕ) (o : Option (Nested Re × Names)) (kind : ErrorKind) → kind ≢ OutOfMemory
    → (kind ≡ OutOfMemory) ⊎
    ((o ≡ None) ⊎ ((kind ≡ NestLimitExceeded) × IfSome o (λ (re, names). default_config.nest_limit < re.depth)))
    → IsUnread (option_map (λ p. is_some (find_str p.0.value text 0)) o) (deeper o)
by_refusal text o kind other (inl memory) = absurd (other memory)
by_refusal text None kind other (inr r) = inl refl
by_refusal text (Some p) kind other (inr (inl e)) = absurd (cc)
by_refusal text (Some p) kind other (inr (inr deep)) = inr (lt-ltb default_config.nest_limit p.0.depth deep.1)

-- a pattern that is refused for its syntax isn't read
pub unread : (pattern text : List ℕ) (kind : ErrorKind) → kind ≢ OutOfMemory → Refuses default_config pattern kind
    → IsUnread (finds pattern text) (is_too_deep pattern)
unfolding Refuses
unread pattern text kind other refuses = by_refusal text (search_pattern pattern) kind other refuses

shallow : (o : Option (Nested Re × Names)) (a : Re) (names : Names)
    → IsSomeAnd o (λ (re, found). (re.depth ≤ default_config.nest_limit) × SameCaptures a re.value × (names ≡ found)
    × (group_count a ≤ length names))
    → deeper o ≡ false
shallow None a names reads = absurd reads
shallow (Some p) a names reads = let h : p.0.depth ≤ default_config.nest_limit = reads.0 in grind (arith, nat_tests, h)

-- what the grammar reads isn't nested too deep
pub not_too_deep : (pattern : List ℕ) (hir : Hir) (names : Names) → Reads default_config pattern hir names
    → is_too_deep pattern ≡ false
unfolding Reads
not_too_deep pattern hir names reads = shallow (search_pattern pattern) (meaning hir) names reads

some_answer : (text : List ℕ) (o : Option (Nested Re × Names)) (a : Re) (names : Names)
    → IsSomeAnd o (λ (re, found). (re.depth ≤ default_config.nest_limit) × SameCaptures a re.value × (names ≡ found)
    × (group_count a ≤ length names))
    → option_map (λ p. is_some (find_str p.0.value text 0)) o ≢ None
some_answer text None a names reads = absurd reads
some_answer text (Some p) a names reads = λ e. cc

-- what the grammar reads is a pattern that is read
pub read_pattern : (pattern text : List ℕ) (hir : Hir) (names : Names) → Reads default_config pattern hir names
    → IsReadPattern (finds pattern text) (is_too_deep pattern)
unfolding Reads
read_pattern pattern text hir names reads =
    (some_answer text (search_pattern pattern) (meaning hir) names reads, not_too_deep pattern hir names reads)

-- what is found or missing is what the answer is
pub finding_is : (b : Bool) (answer : Option Bool) (deep : Bool) → answer ≡ Some b → deep ≡ false
    → IsFinding answer deep (finding_of b)
finding_is true answer deep e d = (e, d)
finding_is false answer deep e d = (e, d)

-- a result that says whether the pattern is found says what the answer is
pub answered : {E : Type 0} (r : Result Finding E) (b : Bool) (answer : Option Bool) (deep : Bool) → answer ≡ Some b → deep ≡ false
    → IfOk r (λ found. found ≡ finding_of b)
    → IfOk r (IsFinding answer deep)
answered (Ok given) b answer deep e d is = rw is (finding_is b answer deep e d)
answered (Err fault) b answer deep e d is = is
