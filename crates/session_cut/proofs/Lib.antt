mod Cuts
mod Out
