use Rattle.ocl_check.proofs.commands.compile.write_compiled.Goals as goal
