-- A parse that succeeds has a task and a start, and its method and numbers passed their parsers, for `options`.
use Rattle.std.proofs.Common.{◌≡◌, ◌∙◌, ◌<◌, ◌≤◌, ◌&&◌, ◌||◌, ap, arith, inl, inr, sym, subst, refl, ℕ}
use Rattle.std.proofs.Common.{Bool, true, false, not, List, [], ◌∷◌, length, Some, None, Option, is_some, codes}
use Rattle.std.specs.Prelude.{map}
use Rattle.std.specs.Borrow.{Bor}
use Rattle.std.specs.List.{list_any, slice_index_or}
use Rattle.std.specs.Str.{bytes_eq}
use Rattle.std.proofs.lemmas.List.{get_or_default, length-map}
use Rattle.std.proofs.lemmas.Slice.Eq.{bytes_eq-Decides}
use Rattle.clap.proofs.CallerLemmas.{required_has_value}
use Rattle.clap.specs.Built.{IsParsedFrom, IsPlain}
use Rattle.clap.specs.Facts.{args_of, least_values}
use Rattle.clap.specs.Matches.{first_value, found_of}
use Rattle.clap.specs.Simple.{App, app_of}
use Rattle.clap.specs.Values.{Accepts}
use Rattle.clap.specs.Walk.{Rule, Text, is_empty, is_simple_arg, rule_of, texts}
use Rattle.clap.specs.declared.builder.action.ArgAction.TheVariants.{Set}
use Rattle.clap.specs.declared.builder.arg.Arg.{Arg}
use Rattle.clap.specs.declared.builder.command.Command.{Command}
use Rattle.clap.specs.declared.builder.command.Command.TheViews.{out-Command}
use Rattle.clap.specs.declared.builder.value_parser.ValueParser.{ValueParser}
use Rattle.clap.specs.declared.builder.value_parser.ValueParser.TheVariants as vp
use Rattle.clap.specs.declared.parser.matches.ArgMatches.{ArgMatches}
use Rattle.lalrpop_run_options.proofs.GivenLemmas.{IsOwn, given_passed}
use Rattle.lalrpop_run_options.proofs.RuleLemmas.{and_first, and_second, not_true, only_at, only_place, seen_at}
use Rattle.lalrpop_run_options.specs.Given.{HasMethodWord, IsComplete, HasPassed}
use Rattle.lalrpop_run_options.specs.Method.{IsMethodWord, canonical_word, lane_word, method_words}
use Rattle.lalrpop_run_options.specs.Program.{IsProgram, WordList, copies_rule, limit_rule, macro_limit_rule, method_rule}
use Rattle.lalrpop_run_options.specs.Program.{parser_of_u16, parser_of_u64, parser_of_usize, program, rules_of_program, start_rule}
use Rattle.lalrpop_run_options.specs.Program.{task_rule}
use Rattle.lalrpop_run_options.specs.Task.{IsTaskWord, all_tasks, task_words, word_of}
use Rattle.lalrpop_run_options.specs.declared.task.Task.{Task}

-- ---- the command

-- what a proof reads of the command
record HasRules (c : Command) (rules : List Rule) : Type 0 where
  pub rules_are : map rule_of (args_of c) ≡ rules
  pub plain : IsPlain c
  pub globals : (out-Command c).has_globals ≡ false
  pub negates : (out-Command c).subcommand_negates_reqs ≡ false

not_false : (b : Bool) → not b ≡ true → b ≡ false
not_false true h = cc
not_false false h = refl

has_rules : (c : Command) (tasks methods : WordList) → app_of c ≡ program tasks methods → IsPlain c
    → HasRules c (rules_of_program tasks methods)
unfolding program
has_rules c tasks methods app plain = record {
  rules_are = ap (λ (a : App). a.top.rules) app;
  plain = plain;
  globals = not_false _ (and_first _ _ (and_second _ _ (and_second _ _ (ap (λ (a : App). a.top.is_plain) app))));
  negates = ap (λ (a : App). a.top.subcommand_negates_reqs) app;
}

-- ---- its arguments

-- an id that a command may give an argument of its own
abbrev is_own_id : Text → Bool
is_own_id id = not (is_empty id) && (not (bytes_eq id (codes "help")) && not (bytes_eq id (codes "version")))

some_argument : (xs : List Arg) → 0 < length xs → Arg
some_argument [] lt = absurd (omega arith)
some_argument (x ∷ xs) lt = x

not_empty : (id : Text) → not (is_empty id) ≡ true → id ≡ [] → ⊥
not_empty [] h e = cc
not_empty (x ∷ xs) h e = cc

not_same : (id other : Text) → not (bytes_eq id other) ≡ true → id ≡ other → ⊥
not_same id other h e = not_true _ h ((bytes_eq-Decides id other).1 e)

-- the argument at an index of the list of rules
record HasRule (c : Command) (k : ℕ) (rule : Rule) : Type 0 where
  pub argument : Arg
  pub own : IsOwn c k argument
  pub rule_is : rule_of argument ≡ rule

argument_at : (c : Command) (rules : List Rule) → HasRules c rules → (k : ℕ) (rule : Rule) → k < length rules
    → ((d : Rule) → slice_index_or rules k d ≡ rule) → is_own_id rule.id ≡ true
    → only_at (λ r. bytes_eq r.id rule.id) k rules ≡ true
    → HasRule c k rule
argument_at c rules h k rule lt at own only =
    let args = args_of c in
    let len : length args ≡ length rules = sym (length-map args rule_of) ∙ ap length h.rules_are in
    let d : Arg = some_argument args (omega arith) in
    let a = slice_index_or args k d in
    let rule_is : rule_of a ≡ rule =
    seen_at rule_of args k d ∙ (ap (λ (l : List Rule). slice_index_or l k (rule_of d)) h.rules_are ∙ at (rule_of d)) in
    let id_is : a.id.now ≡ rule.id = ap (λ (r : Rule). r.id) rule_is in
    record {
      argument = a;
      own = record {
        lt = omega arith;
        at = get_or_default args k a d (omega arith);
        unique = λ j e low same. only_place (λ (r : Rule). bytes_eq r.id rule.id) k rules only j (rule_of e) (omega arith)
            (let seen : (slice_index_or rules j (rule_of e)).id ≡ (slice_index_or args j e).id.now =
            ap (λ (r : Rule). r.id)
            (sym (seen_at rule_of args j e ∙ ap (λ (l : List Rule). slice_index_or l j (rule_of e)) h.rules_are)) in
            rw (seen, ← id_is) same);
        named = λ e. not_empty rule.id (and_first _ _ own) (sym id_is ∙ e);
        own = λ auto. elim auto [
          | inl e ↦ not_same rule.id _ (and_first _ _ (and_second _ _ own)) (sym id_is ∙ e)
          | inr e ↦ not_same rule.id _ (and_second _ _ (and_second _ _ own)) (sym id_is ∙ e)
        ];
      };
      rule_is = rule_is;
    }

-- a text that was given for an argument passed the parser of its rule
passed : (c : Command) (m : ArgMatches) (rules : List Rule) (h : HasRules c rules) → IsParsedFrom c m → (k : ℕ) (rule : Rule)
    → HasRule c k rule
    → (q : ValueParser) → rule.parser ≡ Some q → rule.ignore_case ≡ false → HasPassed q rule.id (found_of m)
passed c m rules h p k rule r q parser exact t given =
    let a = r.argument in
    let id_is : a.id.now ≡ rule.id = ap (λ (r : Rule). r.id) r.rule_is in
    let parser_is : a.value_parser ≡ Some q = ap (λ (r : Rule). r.parser) r.rule_is ∙ parser in
    let exact_is : a.ignore_case ≡ false = ap (λ (r : Rule). r.ignore_case) r.rule_is ∙ exact in
    let got = given_passed c m p h.plain h.globals k a r.own q parser_is t (rw id_is given) in
    (subst (λ (b : Bool). Accepts b q t) exact_is got.0, rw id_is at got.1)

no_delimiter : (o : Option ℕ) → not (is_some o) ≡ true → o ≡ None
no_delimiter None h = refl
no_delimiter (Some x) h = cc

fourth : (p q r s rest : Bool) → (p && (q && (r && (s && rest)))) ≡ true → s ≡ true
fourth p q r s rest h = and_first s rest (and_second r _ (and_second q _ (and_second p _ h)))

undelimited : (a : Arg) → is_simple_arg a ≡ true → a.val_delim ≡ None
undelimited a h = no_delimiter a.val_delim
    (fourth (is_empty a.overrides.items) (is_empty a.default_vals_ifs.items) (is_empty a.groups.items) (not (is_some a.val_delim)) _ h)

-- an argument that is required was given a value
given : (c : Command) (m : ArgMatches) (rules : List Rule) (h : HasRules c rules) → IsParsedFrom c m → (k : ℕ) (rule : Rule)
    → HasRule c k rule
    → rule.required ≡ true → rule.action ≡ Some Set → rule.is_simple ≡ true → rule.range ≡ None
    → is_some (first_value (found_of m) rule.id) ≡ true
given c m rules h p k rule r required set simple single =
    let a = r.argument in
    let at = r.own.at in
    let id_is : a.id.now ≡ rule.id = ap (λ (r : Rule). r.id) r.rule_is in
    let simple_is : is_simple_arg a ≡ true = ap (λ (r : Rule). r.is_simple) r.rule_is ∙ simple in
    let delimiter : a.val_delim ≡ None = undelimited a simple_is in
    let range_is : a.num_vals ≡ None = ap (λ (r : Rule). r.range) r.rule_is ∙ single in
    let one : 1 ≤ least_values a = rw range_is (omega arith) in
    let has = required_has_value c m p h.plain h.globals h.negates k a r.own.lt
    (ap (λ (x : Arg). x.required) at ∙ (ap (λ (r : Rule). r.required) r.rule_is ∙ required))
    (ap (λ (x : Arg). x.action) at ∙ (ap (λ (r : Rule). r.action) r.rule_is ∙ set))
    (ap (λ (x : Arg). x.val_delim) at ∙ delimiter)
    (subst (λ (x : Arg). 1 ≤ least_values x) (sym at) one)
    (λ j e low same. r.own.unique j e low (rw at at same))
    (λ e. r.own.named (rw at at e))
    (λ auto. r.own.own (rw at at auto)) in
    subst (λ (w : Text). is_some (first_value (found_of m) w) ≡ true) (ap (λ (x : Arg). x.id.now) at ∙ id_is) has

-- ---- the word of the task

no_value : (o : Option Text) → o ≡ None → is_some o ≡ true → ⊥
no_value None e h = cc
no_value (Some t) e h = cc

any_text : (ns : List (Bor Text)) (t : Text) → list_any (λ n. bytes_eq n.now t) ns ≡ list_any (λ w. bytes_eq w t) (texts ns)
any_text [] t = refl
any_text (n ∷ ns) t = ap (λ b. bytes_eq n.now t || b) (any_text ns t)

task_named : (ts : List Task) (t : Text) → list_any (λ w. bytes_eq w t) (map word_of ts) ≡ true → IsTaskWord t
task_named [] t h = cc
task_named (x ∷ xs) t h = go (bytes_eq (word_of x) t) refl (λ rest. task_named xs t rest)
  where
    go : (b : Bool) → bytes_eq (word_of x) t ≡ b → (list_any (λ w. bytes_eq w t) (map word_of xs) ≡ true → IsTaskWord t)
        → IsTaskWord t
    go true e later = (x, (bytes_eq-Decides (word_of x) t).0 e)
    go false e later = later (rw e at h)

-- ---- the word of the method

method_named : (t : Text) → list_any (λ w. bytes_eq w t) method_words ≡ true → IsMethodWord t
method_named t h = go (bytes_eq lane_word t) (bytes_eq canonical_word t) refl refl h
  where
    go : (a b : Bool) → bytes_eq lane_word t ≡ a → bytes_eq canonical_word t ≡ b → (a || (b || false)) ≡ true → IsMethodWord t
    go true b is_lane is_canonical some = inl (sym ((bytes_eq-Decides lane_word t).0 is_lane))
    go false true is_lane is_canonical some = inr (sym ((bytes_eq-Decides canonical_word t).0 is_canonical))
    go false false is_lane is_canonical some = cc

-- ---- all of it

-- a parse of the program's command line that succeeds has all that the options need
pub complete : (c : Command) (m : ArgMatches) → IsProgram (app_of c) → IsPlain c → IsParsedFrom c m → IsComplete (found_of m)
complete c m shown plain p =
    let tasks = shown.0 in
    let methods = shown.1 in
    let rules = rules_of_program tasks methods in
    let h = has_rules c tasks methods shown.3 plain in
    let task = argument_at c rules h 0 (task_rule tasks) (omega arith) (λ d. refl) refl refl in
    let start = argument_at c rules h 1 start_rule (omega arith) (λ d. refl) refl refl in
    let macro_limit = argument_at c rules h 5 macro_limit_rule (omega arith) (λ d. refl) refl refl in
    let limit = argument_at c rules h 6 limit_rule (omega arith) (λ d. refl) refl refl in
    let method = argument_at c rules h 7 (method_rule methods) (omega arith) (λ d. refl) refl refl in
    let copies = argument_at c rules h 8 copies_rule (omega arith) (λ d. refl) refl refl in
    let task_passed = passed c m rules h p 0 (task_rule tasks) task (vp.Names tasks) refl refl in
    record {
      task = of_word tasks shown.2.of_tasks (first_value (found_of m) (codes "command")) refl
          (given c m rules h p 0 (task_rule tasks) task refl refl refl refl) task_passed;
      start = given c m rules h p 1 start_rule start refl refl refl refl;
      macro_limit = passed c m rules h p 5 macro_limit_rule macro_limit parser_of_u16 refl refl;
      method = of_method methods shown.2.of_methods
          (passed c m rules h p 7 (method_rule methods) method (vp.Names methods) refl refl);
      copies = passed c m rules h p 8 copies_rule copies parser_of_usize refl refl;
      limit = passed c m rules h p 6 limit_rule limit parser_of_u64 refl refl;
    }
  where
    of_method : (methods : WordList) → texts methods.now ≡ method_words
        → HasPassed (vp.Names methods) (codes "method") (found_of m) → HasMethodWord (found_of m)
    of_method methods words method_passed t given =
        let among : list_any (λ w. bytes_eq w t) (texts methods.now) ≡ true =
        sym (any_text methods.now t) ∙ (method_passed t given).0 in
        method_named t (rw words at among)

    of_word : (tasks : WordList) → texts tasks.now ≡ task_words → (o : Option Text)
        → first_value (found_of m) (codes "command") ≡ o
        → is_some (first_value (found_of m) (codes "command")) ≡ true → HasPassed (vp.Names tasks) (codes "command") (found_of m)
        → (t : Task) × (first_value (found_of m) (codes "command") ≡ Some (word_of t))
    of_word tasks words None e some task_passed = absurd (no_value _ e some)
    of_word tasks words (Some t) e some task_passed =
        let among : list_any (λ w. bytes_eq w t) (texts tasks.now) ≡ true = sym (any_text tasks.now t) ∙ (task_passed t e).0 in
        let known = task_named all_tasks t (rw words at among) in
        (known.0, e ∙ ap Some (sym known.1))
