-- How far the search for the order has come: what is left to do, the order so far, which names were entered and left.
use Rattle.std.specs.Prelude.{◌≡◌, ◌||◌, ◌+◌, ℕ, true, List, [], ◌∷◌, ◌++◌, length, map, reverse}
use Rattle.std.specs.Prelude.{if◌then◌else◌}
use Rattle.std.specs.Borrow.{Bor}
use Rattle.lalrpop_grammar_symbols.specs.Symbols.{Text}
use Rattle.lalrpop_grammar_symbols.specs.declared.names.NonterminalString.{NonterminalString}
use Rattle.lalrpop_grammar_language.specs.Among.{Among}
use Rattle.lalrpop_grammar_language.specs.Enabled.{has_text}
use Rattle.lalrpop_grammar_rules.specs.RuleTable.{HasBares, Names, knows}
use Rattle.lalrpop_lr1_inline.specs.InlinedNames.{NonterminalEntries, inlined_named_by, inlined_names, is_inlined_name}
use Rattle.lalrpop_lr1_inline.specs.InliningOrders.{IsInliningOrder, IsOrderWalk, OrderWalk, order_of_walk}
use Rattle.lalrpop_lr1_inline.specs.declared.order.Visit.{Visit}
use Rattle.lalrpop_lr1_inline.specs.declared.order.Visit.TheVariants as tasks

-- to walk a name, or to put it behind those that it names
pub data OrderTask : Type 0 where
  enter : Text → OrderTask
  leave : Text → OrderTask

abbrev pub task_view : Visit → OrderTask
task_view (tasks.Enter n) = OrderTask.enter n.now.0
task_view (tasks.Leave n) = OrderTask.leave n.now.0

-- what is left to do, first task first
abbrev pub tasks_view : List Visit → List OrderTask
tasks_view ts = reverse (map task_view ts)

abbrev pub order_view : List (Bor NonterminalString) → List Text
order_view = map (λ n. n.now.0)

abbrev pub tasks_to_enter : List Text → List OrderTask
tasks_to_enter = map OrderTask.enter

-- the names that were entered and aren't left yet, innermost first
abbrev pub names_open : List OrderTask → List Text
names_open [] = []
names_open (OrderTask.enter n ∷ ts) = names_open ts
names_open (OrderTask.leave n ∷ ts) = n ∷ names_open ts

-- the tasks lead from the one order to the other
abbrev pub LeadOn : NonterminalEntries → List OrderTask → List Text → List Text → Type 0
LeadOn g [] before final = before ≡ final
LeadOn g (OrderTask.leave n ∷ ts) before final = LeadOn g ts (before ++ n ∷ []) final
LeadOn g (OrderTask.enter n ∷ ts) before final =
    (w : OrderWalk) × IsOrderWalk g before (n ∷ []) w × LeadOn g ts (before ++ order_of_walk w) final

-- the innermost name that was entered names this one
abbrev pub IsNamedByFirst : NonterminalEntries → List Text → Text → Type 0
IsNamedByFirst g [] n = Unit {0}
IsNamedByFirst g (m ∷ ms) n = Among (inlined_named_by g m) n

-- each task is of an inlined nonterminal, which the one around it names
abbrev pub AreLinked : NonterminalEntries → List OrderTask → Type 0
AreLinked g [] = Unit {0}
AreLinked g (OrderTask.enter n ∷ ts) =
    (is_inlined_name g n ≡ true) × IsNamedByFirst g (names_open ts) n × AreLinked g ts
AreLinked g (OrderTask.leave n ∷ ts) =
    (is_inlined_name g n ≡ true) × IsNamedByFirst g (names_open ts) n × AreLinked g ts

pub record IsOrderSearch (g : NonterminalEntries) (ts : List OrderTask) (order : List Text) (entered : Names) (left : Names) :
    Type 0 where
  pub leads : (final : List Text) → LeadOn g ts order final → IsInliningOrder g final
  pub left_is : HasBares left order
  pub entered_is : (n : Text) → knows entered n ≡ (has_text n order || has_text n (names_open ts))
  pub linked : AreLinked g ts

-- how much is left to do at most: each task, and of each name that isn't entered a task for itself and those for what it names
abbrev pub tasks_at : NonterminalEntries → Names → List Text → ℕ
tasks_at g entered [] = 0
tasks_at g entered (n ∷ ns) =
    (if knows entered n then 0 else 1 + length (inlined_named_by g n)) + tasks_at g entered ns

abbrev pub tasks_to_come : NonterminalEntries → List OrderTask → Names → ℕ
tasks_to_come g ts entered = length ts + tasks_at g entered (inlined_names g)
