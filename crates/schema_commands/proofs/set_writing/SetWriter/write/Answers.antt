use Rattle.schema_compile.proofs.Telling.{handed_on}
use Rattle.std.proofs.Common.{◌∙◌, ◌++◌, List, ℕ, [], ap, arith, get_or, subst, take, Err, Ok, flat_map, take_all}
use Rattle.proto_compilation.specs.Compilation.{bytes_at}
use Rattle.proto_compilation.proofs.Within.{ordered_within}
use Rattle.wire_format.specs.Field.{bytes_field}
use Rattle.schema_commands.specs.Runs.{IsOutput}
use Rattle.schema_commands.proofs.Setting.{file_below, gathered_after, output_after, output_cut, set_more, set_split}
use Rattle.schema_commands.proofs.set_writing.SetWriter.write.Goals as goal

pub bytes_at-requires : goal.bytes_at-requires
bytes_at-requires g c =
    let same = c.set_order-file-items.ensures ∙ ap (λ l. l.set_order) c.links.ensures in
    let coherent = c.is_sound.ensures.coherent in
    let inside = ordered_within _ coherent in
    omega (arith, coherent.linked, file_below c.set_order-file-items.result.now _ _ _ same inside c.loop-file-test.true)

pub loop-file-preserved : goal.loop-file-preserved
loop-file-preserved g c =
    let order = c.set_order-file-items.result.now in
    let k = c.loop-file.file-index in
    let F : ℕ → List ℕ = λ a. bytes_field 1 (bytes_at c.args.self.now.compiled.now.files a) in
    rw (set_more F order k c.loop-file-test.true)
    (gathered_after {A = Unit {0}} {B = Unit {0}} _ (g.O.CountedWrite.writes c.loop-file.writer) _ []
    c.loop-file.self.chunk.bytes.items _ (flat_map F (take k order)) (F (get_or order k 0)) tt (Ok tt)
    c.loop-file.invariant (rw c.bytes_at.ensures at c.in_ok-put_file.ensures))

pub returns-in_err-put_file : goal.returns-in_err-put_file
returns-in_err-put_file g c =
    let order = c.set_order-file-items.result.now in
    let k = c.loop-file.file-index in
    let F : ℕ → List ℕ = λ a. bytes_field 1 (bytes_at c.args.self.now.compiled.now.files a) in
    let same = c.set_order-file-items.ensures ∙ ap (λ l. l.set_order) c.links.ensures in
    let new = g.O.CountedWrite.writes c.put_file.new.writer in
    rw (handed_on c.from_residual.result _ c.from_residual.ensures.1, ← same, set_split F order k c.loop-file-test.true)
    (output_cut _ new (flat_map F (take k order) ++ F (get_or order k 0)) _ _
    (gathered_after {A = Unit {0}} {B = Unit {0}} _ (g.O.CountedWrite.writes c.loop-file.writer) new []
    c.loop-file.self.chunk.bytes.items c.put_file.new.self.bytes.items (flat_map F (take k order))
    (F (get_or order k 0)) tt (Err c.in_err-put_file.field-0.0)
    c.loop-file.invariant (rw c.bytes_at.ensures at c.in_err-put_file.ensures)))

pub returns : goal.returns
returns g c =
    let order = c.set_order-file-items.result.now in
    let F : ℕ → List ℕ = λ a. bytes_field 1 (bytes_at c.args.self.now.compiled.now.files a) in
    let (taken, before, is) = c.loop-file.invariant in
    let same = c.set_order-file-items.ensures ∙ ap (λ l. l.set_order) c.links.ensures in
    let all = take_all c.loop-file.file-index order (omega arith) in
    subst (λ (l : List ℕ). IsOutput (g.O.CountedWrite.writes c.args.writer.now)
    (g.O.CountedWrite.writes c.write_out.new.writer) l c.write_out.result) (is ∙ ap (flat_map F) (all ∙ same))
    (output_after _ _ _ taken c.loop-file.self.chunk.bytes.items c.write_out.result before c.write_out.ensures.written)
