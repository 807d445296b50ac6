-- The equations of `meaning`, one for each variant of a tree. For the functions that walk a tree.
use Rattle.std.proofs.Common.{◌≡◌, ℕ, map, Option, Vec, Box, Global, sym, ap, ◌∙◌}
use Rattle.std.specs.Prelude.{option_map}
use Rattle.std.specs.String.{string_bytes}
use Rattle.std.specs.declared.string.String.{String}
use Rattle.lalrpop_lexer_pattern.specs.Matches.{Pattern, concat_all, alternation_all}
use Rattle.lalrpop_lexer_pattern.specs.Meaning.{meaning, node_meaning}
use Rattle.lalrpop_lexer_pattern.specs.declared.class.Class as class_type
use Rattle.lalrpop_lexer_pattern.specs.declared.tree.Look as look_type
use Rattle.lalrpop_lexer_pattern.specs.declared.tree.Repeats.{Repeats}
use Rattle.lalrpop_lexer_pattern.specs.declared.tree.Hir.{Hir, Hir-F, fold-roll-Hir}
use Rattle.lalrpop_lexer_pattern.specs.declared.tree.Hir.TheVariants.{Empty, Literal, Class, Look, Capture, Repetition, Concat, Alternation}
use Rattle.lalrpop_lexer_pattern.specs.declared.tree.Hir.TheVariants.{rolls-Empty, rolls-Literal, rolls-Class, rolls-Look, rolls-Capture}
use Rattle.lalrpop_lexer_pattern.specs.declared.tree.Hir.TheVariants.{rolls-Repetition, rolls-Concat, rolls-Alternation}

-- the meaning of the tree of the empty word
pub meaning-Empty : meaning Empty ≡ Pattern.empty
meaning-Empty = ap meaning (sym rolls-Empty) ∙ fold-roll-Hir Pattern node_meaning Hir-F.Empty

-- a literal means its characters one after the other
pub meaning-Literal : (cs : Vec ℕ Global) → meaning (Literal cs) ≡ Pattern.literal cs.items
meaning-Literal cs = ap meaning (sym (rolls-Literal cs)) ∙ fold-roll-Hir Pattern node_meaning (Hir-F.Literal cs)

-- a class means its ranges
pub meaning-Class : (c : class_type.Class) → meaning (Class c) ≡ Pattern.class c.ranges.items
meaning-Class c = ap meaning (sym (rolls-Class c)) ∙ fold-roll-Hir Pattern node_meaning (Hir-F.Class c)

-- a look around means itself
pub meaning-Look : (l : look_type.Look) → meaning (Look l) ≡ Pattern.look l
meaning-Look l = ap meaning (sym (rolls-Look l)) ∙ fold-roll-Hir Pattern node_meaning (Hir-F.Look l)

-- a group means its name and what it holds
pub meaning-Capture : (name : Option (String Global)) (sub : Box Hir Global)
    → meaning (Capture name sub) ≡ Pattern.capture (option_map string_bytes name) (meaning sub.value)
meaning-Capture name sub = ap meaning (sym (rolls-Capture name sub)) ∙ fold-roll-Hir Pattern node_meaning (Hir-F.Capture name sub)

-- a repetition means its bounds and what it repeats
pub meaning-Repetition : (r : Repeats) (sub : Box Hir Global)
    → meaning (Repetition r sub) ≡ Pattern.repetition r.min r.max r.greedy (meaning sub.value)
meaning-Repetition r sub = ap meaning (sym (rolls-Repetition r sub)) ∙ fold-roll-Hir Pattern node_meaning (Hir-F.Repetition r sub)

-- a sequence means its parts one after the other
pub meaning-Concat : (subs : Vec Hir Global) → meaning (Concat subs) ≡ concat_all (map meaning subs.items)
meaning-Concat subs = ap meaning (sym (rolls-Concat subs)) ∙ fold-roll-Hir Pattern node_meaning (Hir-F.Concat subs)

-- the meaning of a tree of branches: one of their meanings
pub meaning-Alternation : (subs : Vec Hir Global) → meaning (Alternation subs) ≡ alternation_all (map meaning subs.items)
meaning-Alternation subs = ap meaning (sym (rolls-Alternation subs)) ∙ fold-roll-Hir Pattern node_meaning (Hir-F.Alternation subs)
