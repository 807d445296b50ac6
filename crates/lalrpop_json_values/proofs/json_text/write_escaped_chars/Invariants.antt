use Rattle.std.specs.Fmt.{HasWritten, IsPlainFormatter}
use Rattle.std.specs.Prelude.{encode_utf8_all}
use Rattle.json.specs.Print.{escape}
use Rattle.lalrpop_json_values.proofs.json_text.write_escaped_chars.Given as goal

abbrev pub invariant-loop-c : goal.invariant-loop-c
invariant-loop-c g l =
    IsPlainFormatter l.initial.f → HasWritten g.W.Write.write_str_gives l.initial.f (escape (encode_utf8_all l.yielded)) l.f
