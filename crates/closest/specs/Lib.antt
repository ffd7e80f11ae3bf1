pub mod Panes
