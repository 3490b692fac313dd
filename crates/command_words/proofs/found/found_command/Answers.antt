use Rattle.std.proofs.Common.{rules, codes}
use Rattle.clap.specs.Words.{found_of, rows_of}
use Rattle.command_words.proofs.FoundLemmas.{found_in}
use Rattle.command_words.proofs.found.found_command.Goals as goal

pub returns-in-build : goal.returns-in-build
returns-in-build c =
    let rows = rows_of (found_of c.in_ok-name.operands.now) in
    found_in c.args.matches.now c.in_ok-name.name.now (codes "build") rows c.found_build.result (search rules) (search rules) c.in-build.is c.found_build.ensures

pub returns-in-run : goal.returns-in-run
returns-in-run c =
    let rows = rows_of (found_of c.in_ok-name.operands.now) in
    found_in c.args.matches.now c.in_ok-name.name.now (codes "run") rows c.found_run.result (search rules) (search rules) c.in-run.is c.found_run.ensures

pub returns-in-dump : goal.returns-in-dump
returns-in-dump c =
    let rows = rows_of (found_of c.in_ok-name.operands.now) in
    found_in c.args.matches.now c.in_ok-name.name.now (codes "dump") rows c.found_dump.result (search rules) (search rules) c.in-dump.is c.found_dump.ensures

pub returns-in-migrate : goal.returns-in-migrate
returns-in-migrate c =
    let rows = rows_of (found_of c.in_ok-name.operands.now) in
    found_in c.args.matches.now c.in_ok-name.name.now (codes "migrate") rows c.found_migrate.result (search rules) (search rules) c.in-migrate.is c.found_migrate.ensures

pub returns-in-gen : goal.returns-in-gen
returns-in-gen c =
    let rows = rows_of (found_of c.in_ok-name.operands.now) in
    found_in c.args.matches.now c.in_ok-name.name.now (codes "gen") rows c.found_gen.result (search rules) (search rules) c.in-gen.is c.found_gen.ensures

pub returns-in-log : goal.returns-in-log
returns-in-log c =
    let rows = rows_of (found_of c.in_ok-name.operands.now) in
    found_in c.args.matches.now c.in_ok-name.name.now (codes "log") rows c.found_log.result (search rules) (search rules) c.in-log.is c.found_log.ensures

pub returns-in-items : goal.returns-in-items
returns-in-items c =
    let rows = rows_of (found_of c.in_ok-name.operands.now) in
    found_in c.args.matches.now c.in_ok-name.name.now (codes "items") rows c.found_items.result (search rules) (search rules) c.in-items.is c.found_items.ensures

pub returns-in-mirror : goal.returns-in-mirror
returns-in-mirror c =
    let rows = rows_of (found_of c.in_ok-name.operands.now) in
    found_in c.args.matches.now c.in_ok-name.name.now (codes "mirror") rows c.found_mirror.result (search rules) (search rules) c.in-mirror.is c.found_mirror.ensures
