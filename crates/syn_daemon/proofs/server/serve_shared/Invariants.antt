use Rattle.syn_daemon.proofs.server.serve_shared.Given as goal

-- the lock of what is shared
abbrev pub ghosts-serve_under : goal.ghosts-serve_under
ghosts-serve_under g a = record {
  lock = g.X.Shares.lock_in a.shared.now;
  origin = g.X.Shares.origin_in a.shared.now;
}
