use Rattle.proto_compilation.proofs.Within.{file_within, reached_within}
use Rattle.proto_compilation.proofs.compiled.Compiled.files_are_within_the_set.Goals as goal

pub returns-clause-file : goal.returns-clause-file
returns-clause-file c = file_within c.args.self.now c.is_sound.ensures.coherent.reaches

pub returns-clause-reached : goal.returns-clause-reached
returns-clause-reached c = reached_within c.args.self.now c.is_sound.ensures.coherent.reaches
