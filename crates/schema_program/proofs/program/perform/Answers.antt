use Rattle.std.proofs.Common.{◌≡◌, Result}
use Rattle.grpcweb_service.specs.declared.service.EndedService.{EndedService}
use Rattle.schema_commands.specs.Runs.{IsCompileRun, IsDescribeRun, IsExplainRun}
use Rattle.schema_failure.specs.declared.failure.Failure.{Failure}
use Rattle.schema_program.proofs.Ending.{ends_sound}
use Rattle.schema_program.specs.Performed.{IsAnswerFrom, IsServeFrom, IsServeTask}
use Rattle.schema_serve.specs.Runs.{end_of_run}
use Rattle.schema_serve.specs.declared.task.ServeTask.{ServeTask}
use Rattle.schema_sources.specs.Texts.{unknown}
use Rattle.schema_program.proofs.program.perform.Goals as goal

pub returns-in-Compile : goal.returns-in-Compile
returns-in-Compile g c =
    let writes = g.O.CountedWrite.writes in
    rw c.in-Compile.is
    (ends_sound (λ done. IsCompileRun (unknown c.in-Compile.selection.custom_options) c.in-Compile.file
    (writes c.args.output.now) (writes c.run_compile.new.writer) done)
    c.run_compile.result c.sound.result c.sound.ensures
    (rw c.folder_of-folder.ensures at c.run_compile.ensures))

pub returns-in-Check : goal.returns-in-Check
returns-in-Check g c = rw c.in-Check.is (rw c.folder_of-folder-in-Check.ensures at c.run_check.ensures)

pub returns-in-Answer : goal.returns-in-Answer
returns-in-Answer g c =
    let reads = g.I.CountedRead.reads in
    let writes = g.O.CountedWrite.writes in
    rw c.in-Answer.is
    (ends_sound (λ done. IsAnswerFrom c.in-Answer.origin c.in-Answer.mode (reads c.args.input.now)
    (reads c.answer_from.new.input) (writes c.args.output.now) (writes c.answer_from.new.output) done)
    c.answer_from.result c.sound-in-Answer.result c.sound-in-Answer.ensures c.answer_from.ensures)

pub returns-in-Describe : goal.returns-in-Describe
returns-in-Describe g c =
    let reads = g.I.CountedRead.reads in
    let writes = g.O.CountedWrite.writes in
    rw c.in-Describe.is
    (ends_sound (λ done. IsDescribeRun c.in-Describe.name.now (reads c.args.input.now) (reads c.run_describe.new.reader)
    (writes c.args.output.now) (writes c.run_describe.new.writer) done)
    c.run_describe.result c.sound-in-Describe.result c.sound-in-Describe.ensures c.run_describe.ensures)

pub returns-in-Serve : goal.returns-in-Serve
returns-in-Serve g c =
    let writes = g.O.CountedWrite.writes in
    let serve = c.in-Serve in
    rw serve.is
    (ends_sound (λ done. (asked : ServeTask) × IsServeTask serve.service serve.plan serve.mode asked
    × (run : Result EndedService Failure)
    × IsServeFrom serve.origin asked (writes c.args.output.now) (writes c.serve_from.new.output) run
    × (done ≡ end_of_run run))
    c.end_of_run.result c.sound-in-Serve.result c.sound-in-Serve.ensures (
      c.serve_task-asked.result,
      c.serve_task-asked.ensures,
      c.serve_from.result,
      c.serve_from.ensures,
      c.end_of_run.ensures,
    ))

pub returns-in-Explain : goal.returns-in-Explain
returns-in-Explain g c =
    let writes = g.O.CountedWrite.writes in
    rw c.in-Explain.is
    (ends_sound (λ done. IsExplainRun c.in-Explain.topic (writes c.args.output.now)
    (writes c.run_explain.new.writer) done)
    c.run_explain.result c.sound-in-Explain.result c.sound-in-Explain.ensures c.run_explain.ensures)
