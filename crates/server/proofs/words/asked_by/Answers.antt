use Rattle.std.proofs.Common.{rules, ◌≡◌, codes, sym}
use Rattle.clap.specs.Words.{found_of}
use Rattle.server.proofs.WordLaws.{entered_is, asks_follow, asks_replay, asks_nothing, asks_serve, serves_nothing}
use Rattle.server.proofs.words.asked_by.Goals as goal

pub returns-then-eq-2-clause-some : goal.returns-then-eq-2-clause-some
returns-then-eq-2-clause-some c =
    let name_is : c.in_ok-name.name.now ≡ codes "replay" = search rules in
    asks_replay _ (found_of c.in_ok-name.below.now) c.replay_by.result (entered_is _ _ _ (codes "replay") _ (rw name_is at c.in_ok-name.ensures.name) c.in_ok-name.ensures.rows) c.replay_by.ensures.some

pub returns-then-eq-2-clause-none : goal.returns-then-eq-2-clause-none
returns-then-eq-2-clause-none c =
    let name_is : c.in_ok-name.name.now ≡ codes "replay" = search rules in
    asks_nothing _ (found_of c.in_ok-name.below.now) c.replay_by.result (entered_is _ _ _ (codes "replay") _ (rw name_is at c.in_ok-name.ensures.name) c.in_ok-name.ensures.rows) c.replay_by.ensures.none

pub returns-then-eq-3-clause-some : goal.returns-then-eq-3-clause-some
returns-then-eq-3-clause-some c =
    let name_is : c.in_ok-name.name.now ≡ codes "follow" = search rules in
    asks_follow _ (found_of c.in_ok-name.below.now) c.follow_by.result (entered_is _ _ _ (codes "follow") _ (rw name_is at c.in_ok-name.ensures.name) c.in_ok-name.ensures.rows) c.follow_by.ensures

pub returns-then-eq-4-clause-some : goal.returns-then-eq-4-clause-some
returns-then-eq-4-clause-some c =
    let name_is : c.in_ok-name.name.now ≡ codes "serve" = search rules in
    asks_serve _ (found_of c.in_ok-name.below.now) c.serve_by.result (entered_is _ _ _ (codes "serve") _ (rw name_is at c.in_ok-name.ensures.name) c.in_ok-name.ensures.rows) c.serve_by.ensures.some

pub returns-then-eq-4-clause-none : goal.returns-then-eq-4-clause-none
returns-then-eq-4-clause-none c =
    let name_is : c.in_ok-name.name.now ≡ codes "serve" = search rules in
    serves_nothing _ (found_of c.in_ok-name.below.now) c.serve_by.result (entered_is _ _ _ (codes "serve") _ (rw name_is at c.in_ok-name.ensures.name) c.in_ok-name.ensures.rows) c.serve_by.ensures.none
