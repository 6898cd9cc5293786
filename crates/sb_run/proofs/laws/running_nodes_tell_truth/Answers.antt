use Rattle.sb_run.specs.Together.{history_of}
use Rattle.sb_run.proofs.Together.{gives_truth, together_true, given_true, history_begins}
use Rattle.sb_run.proofs.laws.running_nodes_tell_truth.Goals as goal

pub returns-clause-given : goal.returns-clause-given
returns-clause-given c = λ writes opening settings all run node_view owner key value version opened turns view row.
    let law = gives_truth c.running_nodes_keep_truth.ensures.honest c.nodes_hold.ensures.is c.answers_are_honest.ensures.is in
    let true_each = together_true law writes opening settings all opened turns run in
    c.running_nodes_keep_truth.ensures.given writes (opening run) (history_of run all) node_view owner key value version (opened run).0 (opened run).1
    (λ event s. (true_each event s).0) (λ event s. (true_each event s).1) view row

pub returns-clause-exact : goal.returns-clause-exact
returns-clause-exact c = λ writes opening settings all run node_view owner e opened turns view written last within.
    let law = gives_truth c.running_nodes_keep_truth.ensures.honest c.nodes_hold.ensures.is c.answers_are_honest.ensures.is in
    let true_each = together_true law writes opening settings all opened turns run in
    c.running_nodes_keep_truth.ensures.exact writes (opening run) (history_of run all) node_view owner e (opened run).0 (opened run).1
    (λ event s. (true_each event s).0) (λ event s. (true_each event s).1) view written last within

pub returns-clause-honest : goal.returns-clause-honest
returns-clause-honest c = λ writes opening settings all blocks b opened turns given stands.
    let law = gives_truth c.running_nodes_keep_truth.ensures.honest c.nodes_hold.ensures.is c.answers_are_honest.ensures.is in
    (given_true law writes opening settings all opened (together_true law writes opening settings all opened turns) blocks b given stands).1

pub returns-clause-digests : goal.returns-clause-digests
returns-clause-digests c = λ opening settings all run from want digest owner floor upto answer reached.
    let starts = c.running_nodes_keep_truth.ensures.starts (opening run) (settings run) (history_of run all) from want digest owner floor upto answer reached in
    (c.running_nodes_keep_truth.ensures.digests (opening run) (settings run) (history_of run all) from want digest owner answer reached, starts.0, starts.1)

pub returns-clause-reached : goal.returns-clause-reached
returns-clause-reached c = λ writes opening settings all run from want digest owner opened turns answer reached.
    let law = gives_truth c.running_nodes_keep_truth.ensures.honest c.nodes_hold.ensures.is c.answers_are_honest.ensures.is in
    let true_each = together_true law writes opening settings all opened turns run in
    c.running_nodes_keep_truth.ensures.reached writes (opening run) (settings run) (history_of run all) from want digest owner (opened run).0 (opened run).1
    (λ event s. (true_each event s).0) (λ event s. (true_each event s).1) answer reached

pub returns-clause-progress : goal.returns-clause-progress
returns-clause-progress c = λ writes opening settings all run from want digest owner floor upto opened turns answer reached.
    let law = gives_truth c.running_nodes_keep_truth.ensures.honest c.nodes_hold.ensures.is c.answers_are_honest.ensures.is in
    let true_each = together_true law writes opening settings all opened turns run in
    c.running_nodes_keep_truth.ensures.progress writes (opening run) (settings run) (history_of run all) from want digest owner floor upto (opened run).0 (opened run).1
    (λ event s. (true_each event s).0) (λ event s. (true_each event s).1) answer reached

pub returns-clause-later : goal.returns-clause-later
returns-clause-later c = λ writes opening settings earlier all run opened turns begins.
    let law = gives_truth c.running_nodes_keep_truth.ensures.honest c.nodes_hold.ensures.is c.answers_are_honest.ensures.is in
    let true_each = together_true law writes opening settings all opened turns run in
    c.running_nodes_keep_truth.ensures.later (opening run) (history_of run earlier) (history_of run all) (opened run).0
    (λ event s. (true_each event s).0) (history_begins run earlier all begins)
