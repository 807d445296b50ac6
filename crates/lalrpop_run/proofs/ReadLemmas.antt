-- A grammar that bytes give is one for which each task's reply is promised, and a text that isn't read is empty; for the run.
use Rattle.std.proofs.Common.{◌≡◌, Bool, List, [], ℕ, Ok, false, length, refl, subst, sym}
use Rattle.lalrpop_grammar.specs.declared.grammar.Grammar.{Grammar}
use Rattle.lalrpop_grammar.specs.Views.{grammar_view, item_view}
use Rattle.lalrpop_json_grammar.proofs.GrammarLemmas.{grammar_takes}
use Rattle.lalrpop_json_grammar.specs.Readable.{IsReadable}
use Rattle.lalrpop_json_items.specs.Readable.{IsReadableItem}
use Rattle.lalrpop_norm.proofs.ItemLemmas.{each_image, item_read}
use Rattle.lalrpop_norm_theory.specs.Premises.{IsReadGrammar, IsReadItem}
use Rattle.lalrpop_run_options.specs.declared.task.Task.{Task}
use Rattle.lalrpop_run_options.specs.declared.task.Task.TheVariants as tasks
use Rattle.lalrpop_run.specs.Replies.{GivesGrammar, IsGrammarFor, IsTextIn, RunReader}

readable : (g : Grammar) → IsReadable g → IsReadGrammar (grammar_view g)
readable g h = record {
  underscores = length g.prefix;
  two = h.prefix.two;
  prefix_is = h.prefix.run;
  items = each_image (λ _. IsReadableItem) IsReadItem item_view item_read 0 g.items h.items;
}

-- a grammar that bytes give is one for which the task's reply is promised, whatever the task
pub grammar_read : (t : Task) (bytes : List ℕ) (g : Grammar) → GivesGrammar bytes (Ok g) → IsGrammarFor t g
grammar_read tasks.Judge bytes g given = tt
grammar_read tasks.Tokens bytes g given = readable g (grammar_takes given.0 g given.1.1).1
grammar_read tasks.Check bytes g given = readable g (grammar_takes given.0 g given.1.1).1
grammar_read tasks.Parse bytes g given = readable g (grammar_takes given.0 g given.1.1).1
grammar_read tasks.Report bytes g given = readable g (grammar_takes given.0 g given.1.1).1

-- where no text is read, it is the empty one
pub unread_text : (reads : Bool) (r : RunReader) → reads ≡ false → IsTextIn reads r []
unread_text reads r h = subst (λ (b : Bool). IsTextIn b r []) (sym h) refl
