use Rattle.std.proofs.Common.{◌<◌, ◌≤◌, ◌∙◌, length, arith}
use Rattle.java_lexer.proofs.LexLemmas.{no_token, no_utf8, all_tokens}
use Rattle.java_lexer.proofs.lexer.lex.Goals as goal

pub returns-then-at-len : goal.returns-then-at-len
returns-then-at-len c =
    let more : c.in_ok-tokens.field-0.at < length c.as_slice.result.now =
    omega (arith, c.as_slice.ensures.len, c.len.ensures, c.if-at-len.true) in
    rw c.fault.ensures (no_token c.args.bytes.now c.as_slice.result.now _ c.in_ok-tokens.field-0
    (c.as_slice.ensures.value
    ∙ c.in_ok-units.ensures.text) c.in_ok-units.ensures.whole c.in_ok-tokens.ensures more)

pub returns-then-not-whole : goal.returns-then-not-whole
returns-then-not-whole c =
    let ended : length c.as_slice.result.now ≤ c.in_ok-tokens.field-0.at =
    omega (arith, c.as_slice.ensures.len, c.len.ensures, c.if-at-len.false) in
    rw c.fault-then-not-whole.ensures
    (no_utf8 c.args.bytes.now c.as_slice.result.now _ c.in_ok-tokens.field-0
    (c.as_slice.ensures.value
    ∙ c.in_ok-units.ensures.text) c.in_ok-units.ensures.whole c.in_ok-tokens.ensures ended
    c.if-not-whole.true)

pub returns : goal.returns
returns c =
    let ended : length c.as_slice.result.now ≤ c.in_ok-tokens.field-0.at =
    omega (arith, c.as_slice.ensures.len, c.len.ensures, c.if-at-len.false) in
    all_tokens c.args.bytes.now c.as_slice.result.now _ c.in_ok-tokens.field-0
    (c.as_slice.ensures.value
    ∙ c.in_ok-units.ensures.text) c.in_ok-units.ensures.whole c.in_ok-tokens.ensures ended
    c.if-not-whole.false
