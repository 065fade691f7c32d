use Rattle.std.proofs.Common.{string_bytes}
use Rattle.schema_check.proofs.Opening.{placed_gcc, placed_github, placed_json, placed_text}
use Rattle.schema_check.proofs.blocks.place_of.Goals as goal

pub returns-in_ok-excerpt-in-Text : goal.returns-in_ok-excerpt-in-Text
returns-in_ok-excerpt-in-Text c = λ limits places s are name folder.
    rw c.in-Text.is (placed_text string_bytes limits places c.args.fault.now s c.args.file.now c.args.page.now name
    folder c.as_str.result.now c.in_ok-excerpt-in-Text.excerpt c.place_text.result (rw c.in-Text.is at are)
    c.in_ok-excerpt-in-Text.ensures c.place_text.ensures)

pub returns-in-Gcc : goal.returns-in-Gcc
returns-in-Gcc c = λ limits places s are name folder.
    rw c.in-Gcc.is (placed_gcc string_bytes limits places c.args.fault.now s c.args.file.now c.args.page.now name folder
    c.around-number.result.number c.around-number.result.column c.as_str-said.result.now c.gcc_text.result
    (rw c.in-Gcc.is at are) c.around-number.ensures.number c.around-number.ensures.column c.gcc_text.ensures)

pub returns-in-Github : goal.returns-in-Github
returns-in-Github c = λ limits places s are name folder.
    rw c.in-Github.is (placed_github string_bytes limits places c.args.fault.now s c.args.file.now c.args.page.now name
    folder c.around-number.result.number c.around-number.result.column c.as_str-said.result.now c.github_text.result
    (rw c.in-Github.is at are) c.around-number.ensures.number c.around-number.ensures.column c.github_text.ensures)

pub returns-in-Json : goal.returns-in-Json
returns-in-Json c = λ limits places s are name folder.
    rw c.in-Json.is (placed_json string_bytes limits places c.args.fault.now s c.args.file.now c.args.page.now name
    folder c.around-number.result.number c.around-number.result.column c.as_str-said.result.now c.as_str-more.result.now
    c.json_row.result (rw c.in-Json.is at are) c.around-number.ensures.number c.around-number.ensures.column
    c.json_row.ensures)
