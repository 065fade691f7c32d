use Rattle.std.proofs.Common.{rules, string_bytes}
use Rattle.schema_check.proofs.Opening.{listed_github, listed_json}
use Rattle.schema_check.proofs.blocks.list_text.Goals as goal

pub returns-in-Github : goal.returns-in-Github
returns-in-Github c =
    rw c.in-Github.is (listed_github string_bytes c.args.root.now c.args.fault.now c.as_str-said.result.now
    c.format-in-Github.result (search rules))

pub returns-in-Json : goal.returns-in-Json
returns-in-Json c =
    rw c.in-Json.is (listed_json string_bytes c.args.root.now c.args.fault.now c.as_str-said.result.now
    c.format-in-Json.result (search rules))
