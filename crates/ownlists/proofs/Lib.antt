pub mod OwnListLaws
