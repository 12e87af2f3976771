pub mod JoinLaws
