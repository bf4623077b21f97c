use Rattle.std.proofs.Common.{arith}
use Rattle.file_reading.proofs.Laws.{commands_none, commands_more}
use Rattle.file_reading.proofs.commands.write_commands.Goals as goal

pub loop-i-init : goal.loop-i-init
loop-i-init c = let a = c.args in commands_none a.file.now a.w a.out.now

pub loop-i-preserved : goal.loop-i-preserved
loop-i-preserved c =
    let a = c.args in
    commands_more a.file.now a.w c.loop-i.i c.loop-i.invariant (omega (arith, c.requires.1, c.loop-i-test.true)) c.put_command.ensures
