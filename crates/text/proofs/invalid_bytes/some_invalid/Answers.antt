use Rattle.std.proofs.Common.{rules, tests}
use Rattle.text.specs.Fields.{is_invalid}
use Rattle.text.proofs.Laws.{any_parts}
use Rattle.text.proofs.invalid_bytes.some_invalid.Goals as goal

pub returns : goal.returns
returns c = any_parts is_invalid _ c.any.result _ (λ x b q k. search (rules, tests)) c.args.s.now _ c.any.ensures.ran c.chunks.ensures.rest
