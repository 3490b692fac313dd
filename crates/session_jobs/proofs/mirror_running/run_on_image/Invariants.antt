use Rattle.session_jobs.proofs.mirror_running.run_on_image.Given as goal

abbrev pub ghosts-run : goal.ghosts-run
ghosts-run g a = record { name = a.blank.name; parts = a.blank.parts }
